pub mod LoanFacts
pub mod StoreFacts
