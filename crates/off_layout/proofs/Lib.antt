-- Laws of judging a text.
pub mod Lines
pub mod Reaching
pub mod Judged
