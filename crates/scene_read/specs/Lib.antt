pub mod Counted
pub mod Reading
pub mod Roots
pub mod SceneReads
pub mod Shaped
pub mod Shown
pub mod Starts
pub mod Tested
