pub mod Json
pub mod Components
pub mod Ops
pub mod Forms
pub mod Places
pub mod Reading
pub mod Counts
