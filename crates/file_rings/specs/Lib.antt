-- A ring in the bytes of a mesh file.
pub mod Neighbours
