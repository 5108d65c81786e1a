-- Laws of numbers read again.
pub mod Knowing
