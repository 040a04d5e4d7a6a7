pub mod Opening
pub mod Concluding
