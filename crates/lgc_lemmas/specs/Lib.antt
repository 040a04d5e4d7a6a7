pub mod Plain
pub mod Nodes
pub mod Steps
pub mod Answers
pub mod Citations
