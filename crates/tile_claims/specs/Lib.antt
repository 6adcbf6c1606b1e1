pub mod Pixels
pub mod Parts
pub mod Views
pub mod Rule
pub mod Seats
