pub mod Words
pub mod Encoded
pub mod Faults
