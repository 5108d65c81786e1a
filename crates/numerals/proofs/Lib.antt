-- Laws of what is written as text.
pub mod Backward
pub mod Digits
pub mod Writing
