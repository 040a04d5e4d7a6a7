pub mod LineSteps
pub mod Operators
pub mod Appending
pub mod Marking
pub mod KeyLaws
pub mod StoreLaws
