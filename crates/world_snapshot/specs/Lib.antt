pub mod Held
pub mod Captured
pub mod Rising
pub mod Worlds
pub mod Works
pub mod Views
