-- Laws of the length of a text.
pub mod Summed
pub mod TextLength
