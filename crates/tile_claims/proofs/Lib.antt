pub mod SumLaws
pub mod ClaimsKept
pub mod SlotLaws
pub mod RowLaws
