pub mod Numbering
pub mod Growth
pub mod Keys
pub mod Store
