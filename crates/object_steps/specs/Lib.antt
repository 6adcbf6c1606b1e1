pub mod Applying
pub mod Carrying
pub mod Objects
pub mod ParameterLoans
pub mod Resting
