pub mod Findings
pub mod StepFaults
pub mod StepTests
