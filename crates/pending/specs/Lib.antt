-- Request C-19, interrupts that wait: the plain queue, what a value of the code is as one, and, over any type of guest state, a delivery
-- step and runs of calls.
pub mod Plain
pub mod Reading
pub mod Step
pub mod Run
