-- Laws of the definitions.
pub mod Having
pub mod Origins
