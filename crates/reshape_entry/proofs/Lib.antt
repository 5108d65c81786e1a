-- Laws on one entry of a row.
pub mod EntryWritten
pub mod ReadyRows
