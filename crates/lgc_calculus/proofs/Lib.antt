pub mod RuleLists
pub mod ArgumentLaws
pub mod BookLaws
