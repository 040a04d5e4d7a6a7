pub mod Endings
pub mod Meanings
pub mod Promises
pub mod Stops
pub mod Judging
pub mod FewQueries
pub mod ReadBack
