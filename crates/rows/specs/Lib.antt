-- Rows of the second program, and replies to them.
pub mod Row
pub mod Reply
