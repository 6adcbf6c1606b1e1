pub mod HandleMaps
pub mod Slots
