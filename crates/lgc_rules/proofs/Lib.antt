pub mod RuleReads
pub mod Padding
pub mod Fitting
pub mod RuleFaults
pub mod Tops
