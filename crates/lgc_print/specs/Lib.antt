pub mod Text
pub mod FormulaText
