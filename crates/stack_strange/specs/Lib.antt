-- Reason 11: which stack vertices are strange.
pub mod Expected
