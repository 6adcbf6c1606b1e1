-- What the clauses of this crate cite.
pub mod Holds
pub mod Lending
pub mod Passes
pub mod Rendering
pub mod Replies
pub mod Sharing
pub mod Working
