pub mod Starts
pub mod Rows
pub mod Ordering
pub mod Primes
pub mod Irredundance
