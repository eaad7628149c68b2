-- What the code computes is what the definitions say, and the laws of forms for these words.
pub mod Rules
pub mod Fits
pub mod Having
pub mod Instance
pub mod Answers
pub mod Forms
pub mod NotEmpty
