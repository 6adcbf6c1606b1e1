pub mod PlaceLaws
pub mod ShareLaws
pub mod TurnKept
