pub mod Loans
pub mod Stores
