-- The return from an exception, and nests of exceptions, by request C-22 of document 02.
pub mod Answer
pub mod Return
pub mod Promise
pub mod Inner
pub mod Same
pub mod Nest
