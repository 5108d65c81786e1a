-- Tables that passed the check.
pub mod Checked
