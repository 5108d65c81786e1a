-- The ring edits.
pub mod Calls
pub mod AnyEdit
pub mod Beside
