-- What the judging of a face hands on.
pub mod Judged
