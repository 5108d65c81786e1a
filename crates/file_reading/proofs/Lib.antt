-- Laws of reading a mesh file.
pub mod RowsRead
