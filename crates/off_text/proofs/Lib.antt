-- Laws, and the theorems.
pub mod WrittenTextReadsBack
pub mod Cases
-- laws
pub mod Standing
pub mod NumbersRead
pub mod LinesRead
pub mod ReadingIsChecked
pub mod FacesReadBack
