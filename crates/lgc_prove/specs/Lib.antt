pub mod Answers
pub mod ByUse
pub mod AnswerText
pub mod Work
pub mod Uses
