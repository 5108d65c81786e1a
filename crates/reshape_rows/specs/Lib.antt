-- What the row writers of the mesh edits ask.
pub mod RowsReady
