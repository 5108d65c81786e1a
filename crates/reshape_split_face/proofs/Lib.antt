-- Laws of the split of a face.
pub mod FaceSplitDone
