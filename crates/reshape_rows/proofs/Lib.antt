-- Laws for the row writers.
pub mod WrittenSofar
pub mod JudgedReady
