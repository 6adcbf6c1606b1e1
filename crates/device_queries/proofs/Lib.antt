pub mod Corners
pub mod ExtentFacts
pub mod Widened
