-- Laws of reading a face list.
pub mod LinesJudged
pub mod TextRead
