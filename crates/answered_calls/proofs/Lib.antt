pub mod Cleaned
pub mod SeenTiles
pub mod Strides
