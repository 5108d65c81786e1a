-- Reading a mesh file.
pub mod Read
