pub mod Ids
pub mod Mat34
pub mod Placings
pub mod Root
pub mod UnitVector
pub mod Vec3
