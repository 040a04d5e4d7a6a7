pub mod Faults
pub mod MarkLaws
pub mod Refutations
pub mod ClaimLaws
pub mod Validity
pub mod RowLaws
pub mod LineFindings
pub mod CheckLaws
