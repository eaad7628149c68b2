-- Laws of the registers, their number and the change.
pub mod Lists
pub mod Counts
pub mod Changes
pub mod Numbers
