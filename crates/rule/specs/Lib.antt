pub mod Il
pub mod Has
