pub mod Question
pub mod Feed
