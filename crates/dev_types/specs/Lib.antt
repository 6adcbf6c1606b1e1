pub mod Blocks
pub mod Bounded
pub mod Channels
pub mod Counting
pub mod DataTypes
pub mod Refusals
pub mod ValueBytes
pub mod Words
