pub mod Draws
pub mod Calls
pub mod Scene
pub mod Pictures
pub mod Made
