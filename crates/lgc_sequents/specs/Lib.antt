pub mod Signed
pub mod Sequents
pub mod Lines
pub mod Steps
pub mod Rests
pub mod Everywhere
