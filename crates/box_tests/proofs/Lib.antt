pub mod Nesting
pub mod Passages
pub mod Ways
