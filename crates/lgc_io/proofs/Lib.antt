pub mod Unseen
pub mod Known
