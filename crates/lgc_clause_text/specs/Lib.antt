pub mod Items
pub mod ClausesText
pub mod Put
