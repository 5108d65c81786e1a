-- Laws on the answers.
pub mod Crossed
pub mod OneAnswer
