-- Laws on what the ring calls judge.
pub mod Judged
