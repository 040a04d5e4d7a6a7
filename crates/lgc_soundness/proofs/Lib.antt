pub mod BodyValues
pub mod Eigenvariables
pub mod Premises
pub mod RuleSteps
pub mod Resolvents
pub mod LinesHold
pub mod Claims
pub mod Soundness
