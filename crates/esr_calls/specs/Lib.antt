-- Syndrome words read and written with records in words.
pub mod Calls
