-- The record whose words some words are.
pub mod Reading
