pub mod AtomClauses
pub mod LeastClauses
pub mod Reductions
pub mod Marks
