pub mod Filled
pub mod Rays
