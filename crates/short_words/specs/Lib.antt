-- Records of the short form as sixteen words.
pub mod Words
pub mod Reading
