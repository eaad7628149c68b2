pub mod Known
pub mod Page
pub mod Shown
