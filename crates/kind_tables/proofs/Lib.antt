pub mod ExampleFacts
pub mod TableFacts
pub mod WalkLaws
pub mod FrameLaws
pub mod Walked
