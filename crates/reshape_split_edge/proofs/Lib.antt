-- Laws of the split of an edge.
pub mod EdgeSplitDone
