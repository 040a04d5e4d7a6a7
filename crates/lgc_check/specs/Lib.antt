pub mod Causes
pub mod Verdicts
pub mod VerdictText
pub mod Marks
pub mod ClaimTests
pub mod Rows
