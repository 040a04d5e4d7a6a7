pub mod Formed
pub mod DecisionLaws
