-- Laws of units in a text.
pub mod Passing
