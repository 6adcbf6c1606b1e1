-- Lemmas of this crate.
pub mod Complete
mod WriteFacts
