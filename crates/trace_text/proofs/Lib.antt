pub mod CallFacts
pub mod CheckedTraces
pub mod ComponentFacts
pub mod FewCallers
pub mod FewCalls
pub mod JsonFacts
pub mod ReadingFacts
pub mod WholeFacts
