pub mod Floats
pub mod Ranges
