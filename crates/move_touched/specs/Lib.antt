-- One level refreshed: which of its points are touched, what is marked and what is set.
pub mod NextLevel
