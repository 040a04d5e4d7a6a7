pub mod Stops
pub mod Texts
pub mod Places
