pub mod Names
pub mod RuleGrammar
pub mod PlainGrammar
pub mod RuleReading
pub mod RuleFile
pub mod RulePlace
pub mod FileReading
