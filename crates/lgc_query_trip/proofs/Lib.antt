pub mod Signs
pub mod ValueTexts
pub mod Rows
pub mod QueryTexts
pub mod WholeQueries
pub mod ReadQueries
pub mod Subformulas
