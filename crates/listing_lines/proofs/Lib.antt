-- Laws of the lines as they are written.
pub mod LinesWritten
