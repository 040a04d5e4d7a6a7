pub mod Truth
pub mod StepLaws
pub mod Refuting
pub mod Citations
