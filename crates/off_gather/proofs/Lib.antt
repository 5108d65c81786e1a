-- Laws on gathering the faces of a text.
pub mod Gathering
pub mod Rows
