pub mod Findings
pub mod Tests
pub mod Compounds
pub mod Eigenvariables
pub mod Covering
pub mod Places
pub mod Parts
