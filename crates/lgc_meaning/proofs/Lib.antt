pub mod Rows
pub mod Operators
pub mod Places
pub mod Parts
pub mod AtomLaws
