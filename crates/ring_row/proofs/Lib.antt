-- Laws on one row and the two tables after an edit.
pub mod RowWritten
pub mod TablesWritten
pub mod OneRow
