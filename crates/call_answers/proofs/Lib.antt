pub mod Cleaned
pub mod NamedFacts
pub mod PropertiesTold
pub mod QueriesTold
pub mod Seen
pub mod Unnamed
