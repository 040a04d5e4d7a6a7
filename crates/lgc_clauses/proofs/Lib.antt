pub mod Walking
pub mod Changes
pub mod Asked
