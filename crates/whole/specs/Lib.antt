pub mod Whole
pub mod Laws
pub mod Ring
pub mod Halves
pub mod Residues
