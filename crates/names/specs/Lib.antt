pub mod Name
pub mod Class
pub mod Code
pub mod Value
pub mod Table
