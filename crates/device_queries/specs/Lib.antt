pub mod Extents
pub mod Properties
pub mod Refusing
