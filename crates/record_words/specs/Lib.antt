-- Records of the long form as sixteen words.
pub mod Words
