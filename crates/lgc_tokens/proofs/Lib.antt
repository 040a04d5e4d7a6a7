pub mod NumberLaws
pub mod Tables
pub mod Stops
pub mod LowerWords
pub mod KindLaws
pub mod NumberTokens
pub mod Places
pub mod Loops
