pub mod Derivations
pub mod Flattened
