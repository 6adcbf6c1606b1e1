-- Lemmas of this crate.
mod ImageFacts
mod ReportFacts
mod Rows
