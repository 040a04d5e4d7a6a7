pub mod Alike
pub mod Proofs
pub mod Reasons
pub mod Store
pub mod Found
pub mod Writing
