-- Reading a face list.
pub mod Reading
