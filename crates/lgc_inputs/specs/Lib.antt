pub mod Faults
pub mod Texts
pub mod Places
pub mod Told
