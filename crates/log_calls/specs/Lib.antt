-- Trap logs read, looked at and written, with answers in numbers.
pub mod Calls
