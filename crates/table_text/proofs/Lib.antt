-- Lemmas of this crate.
mod TableFacts
