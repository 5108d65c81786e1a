-- Laws of writing the rings of a text.
pub mod RowWritten
pub mod RowsFilled
pub mod BlockFilled
pub mod BlocksFilled
