pub mod TableauLaws
pub mod PartLaws
