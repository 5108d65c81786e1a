-- Lists of moves: what they mean, and the plan that the code works out of them.
pub mod Moves
pub mod Plan
