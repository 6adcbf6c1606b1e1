pub mod Searches
pub mod Shapes
pub mod Walks
