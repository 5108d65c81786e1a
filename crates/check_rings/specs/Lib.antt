-- What the quick pass looks at.
pub mod Turning
