pub mod Tuples
pub mod TruthValues
pub mod Truth
pub mod PlacedGoals
pub mod GoalFormulas
