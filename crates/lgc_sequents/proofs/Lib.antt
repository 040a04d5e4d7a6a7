pub mod Laws
pub mod StepLaws
pub mod RestLaws
