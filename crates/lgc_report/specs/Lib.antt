pub mod Reports
pub mod ReportText
pub mod Valid
pub mod Writable
