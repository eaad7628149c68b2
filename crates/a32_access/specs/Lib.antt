-- What an A32 load or store does with the registers of a mode, by request C-18 of document 02.
pub mod Transferred
pub mod Value
pub mod Place
pub mod Access
