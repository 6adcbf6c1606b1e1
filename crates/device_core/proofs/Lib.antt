-- Lemmas of this crate.
pub mod AwakeFacts
pub mod CauseFacts
pub mod FinishFacts
pub mod KeepFacts
pub mod LoanFacts
pub mod MadeFacts
pub mod SweptFacts
