pub mod Lines
pub mod Ppm
