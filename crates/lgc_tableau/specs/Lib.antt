pub mod ClosedTableaux
pub mod OrderlyTableaux
