pub mod BoundLaws
pub mod LinkLaws
pub mod TableLaws
