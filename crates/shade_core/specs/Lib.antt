pub mod Blends
pub mod Frames
pub mod Lights
