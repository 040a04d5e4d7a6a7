pub mod AmongLaws
pub mod ClauseLaws
pub mod MarkLaws
pub mod ReductionLaws
pub mod Walking
