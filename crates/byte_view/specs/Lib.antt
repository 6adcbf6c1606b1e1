pub mod Elements
pub mod Halves
