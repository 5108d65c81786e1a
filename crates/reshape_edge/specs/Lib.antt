-- What the judging of an edge hands on.
pub mod Judged
