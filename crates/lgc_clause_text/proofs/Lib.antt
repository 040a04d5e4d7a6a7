pub mod TextLaws
pub mod PutLaws
pub mod AskedLaws
