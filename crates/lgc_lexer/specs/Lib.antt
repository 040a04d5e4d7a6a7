pub mod Forms
pub mod Tokens
pub mod Spans
pub mod Cuts
