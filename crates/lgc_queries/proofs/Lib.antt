pub mod AmongWords
pub mod Powers
pub mod QueryReads
pub mod QueryFaults
pub mod QueriesKept
pub mod QueryPlaces
pub mod QueryFiles
