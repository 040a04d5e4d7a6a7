pub mod StartingReads
pub mod ReportedTokens
pub mod ReportReads
pub mod ReportFaults
pub mod EntryAtoms
pub mod ReportKept
pub mod ReportFiles
