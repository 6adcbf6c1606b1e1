pub mod FlightCounts
pub mod FlightFacts
pub mod LoanFacts
pub mod ObjectSums
pub mod PlaceFacts
