pub mod Trees
pub mod Compounds
pub mod UnfoldingLaws
pub mod Roots
