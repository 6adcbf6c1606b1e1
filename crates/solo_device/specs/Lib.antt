-- What the clauses of this crate cite.
pub mod Lone
pub mod OneThread
pub mod Rendering
pub mod Untouched
