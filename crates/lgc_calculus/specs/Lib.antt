pub mod Calculus
pub mod RuleLists
pub mod RuleBook
pub mod RuleKeys
pub mod Arguments
