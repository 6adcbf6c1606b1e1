-- What the clauses of this crate cite.
pub mod Faults
pub mod Streams
pub mod Memory
