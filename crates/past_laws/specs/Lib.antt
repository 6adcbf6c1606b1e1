pub mod HeldUp
pub mod Making
pub mod Open
pub mod Prepared
pub mod Rendered
pub mod Stills
pub mod Suits
pub mod Worlds
