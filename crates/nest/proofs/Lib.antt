-- The laws of C-22 on injections and deliveries, and why two of one mode don't come back.
pub mod Entries
pub mod Backs
pub mod Nests
pub mod Runs
pub mod Twice
