pub mod Blends
pub mod Preparations
pub mod Shares
pub mod Spans
