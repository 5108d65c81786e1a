-- The ring of a new vertex.
pub mod Places
