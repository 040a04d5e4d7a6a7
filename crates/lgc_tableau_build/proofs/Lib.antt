pub mod Settling
pub mod BranchLaws
pub mod NumberLaws
pub mod ClosingLaws
pub mod OpenedLaws
pub mod BuiltLaws
