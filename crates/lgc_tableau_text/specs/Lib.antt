pub mod TableauText
pub mod Work
