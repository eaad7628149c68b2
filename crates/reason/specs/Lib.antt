pub mod Reason
