-- Laws of the points of a text.
pub mod Pointing
