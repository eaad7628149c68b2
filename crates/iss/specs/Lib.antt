pub mod Rule
pub mod Il
