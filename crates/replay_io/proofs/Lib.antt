-- Lemmas and invariants of the loops, and the laws that crates above cite.
pub mod FaultLaws
pub mod Runs
