pub mod Class
pub mod Split
