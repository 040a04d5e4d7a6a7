pub mod Operators
pub mod Valuations
pub mod Queries
pub mod Satisfied
