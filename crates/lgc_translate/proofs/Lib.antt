pub mod Equations
pub mod RowLaws
pub mod CoverLaws
pub mod TranslationLaws
pub mod Rising
pub mod Truth
pub mod SignedLaws
pub mod GrowthLaws
