-- Lemmas of this crate.
pub mod ArrayFacts
pub mod CloseFacts
pub mod FrameFacts
pub mod HoldFacts
pub mod PassFacts
pub mod RenderFacts
pub mod ReplyFacts
pub mod WorkFacts
