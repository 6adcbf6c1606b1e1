pub mod CountMaps
pub mod Queues
