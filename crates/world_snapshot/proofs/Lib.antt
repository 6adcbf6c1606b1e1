mod CapturedFacts
mod Orders
pub mod WorldFacts
