-- The short form's editions and rules, by source 004 and, where it says nothing else, by document 01.
pub mod Edition
pub mod Il
pub mod Rule
pub mod Code
pub mod Has
