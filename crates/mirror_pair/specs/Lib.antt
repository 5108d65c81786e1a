-- The mirrored pair in lent tables, and mirrored lists of moves.
pub mod Pair
pub mod MirroredLists
