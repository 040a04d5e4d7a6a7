pub mod ValueLaws
pub mod Digits
