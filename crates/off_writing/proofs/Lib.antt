-- Laws of writing a face list.
pub mod TextWritten
