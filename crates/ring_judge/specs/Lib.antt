-- What the ring calls judge.
pub mod Judging
