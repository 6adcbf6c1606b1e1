pub mod Loans
pub mod Taken
