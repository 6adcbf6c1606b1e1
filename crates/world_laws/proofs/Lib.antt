pub mod LastRenders
pub mod Marks
pub mod Reaches
pub mod Shows
pub mod Untouched
