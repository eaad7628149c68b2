-- The status word, by document 01's 'Guest state and the five injections', source 003 and requests C-15 and C-17.
pub mod Mode
pub mod Base
pub mod Sound
pub mod Entry
pub mod Register
pub mod Spsr
pub mod It
