pub mod Line
pub mod Feed
