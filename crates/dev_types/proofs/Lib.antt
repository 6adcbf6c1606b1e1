pub mod BlockFacts
pub mod SumLaws
pub mod TextFacts
pub mod TypeFacts
pub mod ValueFacts
pub mod WordFacts
