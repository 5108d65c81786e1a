-- What the quick pass of reason 11 tells.
pub mod Agreement
