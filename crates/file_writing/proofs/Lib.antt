-- Laws of writing a mesh file.
pub mod RowsWritten
