pub mod Goals
pub mod Truth
