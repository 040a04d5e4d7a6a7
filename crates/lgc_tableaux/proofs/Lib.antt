pub mod TableauxLaws
pub mod DecidedLaws
