pub mod Cleaning
pub mod Named
pub mod Plain
pub mod Showing
pub mod Telling
