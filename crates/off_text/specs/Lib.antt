-- Face lists as text.
pub mod Layout
pub mod ReadOff
pub mod WriteOff
