-- A queue of waiting interrupts as a number.
pub mod Number
