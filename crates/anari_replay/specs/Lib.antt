-- What the clauses of this crate cite.
pub mod Input
pub mod Faults
pub mod Outcome
pub mod Output
