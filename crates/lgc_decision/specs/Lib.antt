pub mod Atoms
pub mod Decided
