-- What the functions on one entry ask.
pub mod Ready
