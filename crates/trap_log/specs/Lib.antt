pub mod Answer
pub mod Older
