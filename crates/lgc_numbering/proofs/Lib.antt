pub mod FitLaws
pub mod GrowthLaws
pub mod KeyLaws
pub mod Lists
pub mod NumberingLaws
pub mod StoreLaws
pub mod ValueLaws
