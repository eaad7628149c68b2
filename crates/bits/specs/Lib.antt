pub mod Field
pub mod Layout
pub mod Among
pub mod Decide
pub mod Inner
pub mod Test
