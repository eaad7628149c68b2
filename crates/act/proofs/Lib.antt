-- The law of a refusal, over every action.
pub mod Untouched
