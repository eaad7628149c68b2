-- The guest's state and exception entry, by document 01's 'Guest state and the five injections', source 003 and requests C-15 and C-19.
pub mod State
pub mod Vector
pub mod Entry
