pub mod ElementFacts
pub mod Apart
pub mod Loans
pub mod Options
