pub mod Translation
pub mod Covering
pub mod SignedClauses
pub mod Words
