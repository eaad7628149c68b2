-- Words that are put into an array one by one.
pub mod Filling
