-- Rings that turn round each vertex are sound.
pub mod Turning
