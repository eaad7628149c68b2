pub mod Ascii
pub mod Digit
pub mod Append
pub mod Lines
pub mod Numeral
