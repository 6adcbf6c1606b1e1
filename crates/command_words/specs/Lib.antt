-- What the clauses of this crate cite.
pub mod Commands
pub mod Numbers
pub mod Options
pub mod Reading
