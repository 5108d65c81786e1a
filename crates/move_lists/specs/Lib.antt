-- Lists of moves on a refined stack: the call as a whole, what demand 3 speaks of, and the call by its plan.
pub mod Apply
pub mod Fresh
pub mod Settle
