pub mod BranchLaws
pub mod SplitLaws
pub mod ClosedLaws
