pub mod TableauxText
pub mod Work
