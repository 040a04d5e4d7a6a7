pub mod Digits
pub mod Starts
pub mod Irredundance
