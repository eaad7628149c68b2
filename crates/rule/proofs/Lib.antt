pub mod Masks
pub mod Lengths
pub mod Having
pub mod NotEmpty
pub mod Heads
