pub mod Approaches
pub mod Fractions
