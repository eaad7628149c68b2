-- Syndrome words of the short form, read, written and changed to the long form with records in words.
pub mod Calls
