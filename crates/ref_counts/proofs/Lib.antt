pub mod EntryFacts
pub mod QueueFacts
