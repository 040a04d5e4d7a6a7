pub mod ReportReadBack
pub mod WellFormed
