pub mod Within
pub mod Taking
pub mod Order
pub mod Inserting
pub mod Removing
pub mod Irredundance
