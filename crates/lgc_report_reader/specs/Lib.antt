pub mod Reported
pub mod Starting
pub mod ReportGrammar
pub mod PlainReports
pub mod ReportReading
pub mod ReportFile
pub mod FileReading
