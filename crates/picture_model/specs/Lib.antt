pub mod Fixed
pub mod Rays
pub mod Depths
pub mod Hits
pub mod Shading
pub mod Tiles
pub mod Pictures
pub mod Limits
