-- How long the text of a mesh is.
pub mod Length
