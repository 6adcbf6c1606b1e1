-- What the clauses of this crate cite.
pub mod Examples
pub mod Images
pub mod Reports
