pub mod Adding
pub mod Ended
pub mod Entries
pub mod Removals
pub mod Rounds
pub mod SuitFacts
pub mod Turns
