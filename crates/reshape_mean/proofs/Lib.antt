-- Laws on means.
pub mod MeanPoints
