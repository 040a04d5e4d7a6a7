pub mod Values
pub mod Masks
pub mod Logic
pub mod formers
