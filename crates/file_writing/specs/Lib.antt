-- Writing a mesh file.
pub mod Write
pub mod Storing
