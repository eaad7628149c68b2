pub mod Room
pub mod Input
