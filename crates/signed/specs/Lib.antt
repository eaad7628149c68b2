-- Signed numbers of 32 bits, and a word plus or less one (01, 'Guest state and the five injections'; 02, C-18 and C-22).
pub mod Signed
