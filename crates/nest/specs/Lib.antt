-- Injections, deliveries and their returns, by request C-22 of document 02.
pub mod Entry
pub mod Back
pub mod Nest
pub mod Run
