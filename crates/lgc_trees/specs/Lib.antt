pub mod Outcome
pub mod Unfolded
