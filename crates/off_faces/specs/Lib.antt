-- The faces of a mesh, written vertex by vertex.
pub mod Facing
