pub mod Digits
pub mod Bits
pub mod Modulus
pub mod Operations
pub mod Laws
pub mod Residues
pub mod Loop
pub mod Division
