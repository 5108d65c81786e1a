-- What an edit is, and the tables after it.
pub mod Edit
pub mod Places
