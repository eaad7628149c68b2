pub mod Said
pub mod Features
pub mod Codes
pub mod Five
pub mod Room
