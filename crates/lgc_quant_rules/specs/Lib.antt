pub mod Quantifiers
pub mod Laws
pub mod SetOrder
