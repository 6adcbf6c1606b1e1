-- Lemmas of this crate.
pub mod BegunFacts
pub mod FinishFacts
pub mod HaltFacts
pub mod HearFacts
pub mod LandFacts
pub mod LentFacts
pub mod MoveFacts
pub mod NoteFacts
pub mod OpenFacts
pub mod StepFacts
pub mod StopFacts
pub mod SweepFacts
pub mod SweptFacts
pub mod TellFacts
pub mod WorkFacts
