-- What the clauses of this crate cite.
pub mod States
pub mod Sweeping
pub mod Finishing
pub mod Stepping
