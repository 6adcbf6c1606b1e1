pub mod Booked
pub mod Counting
pub mod Kept
pub mod Leaving
pub mod Ready
pub mod Unseen
pub mod Uses
pub mod Whole
