pub mod Balls
pub mod Divisions
pub mod Entries
pub mod LongRoots
pub mod TripleProducts
