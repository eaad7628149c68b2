-- The fault status registers, by document 01's 'Guest state and the five injections' and source 000.
pub mod Fault
pub mod Base
