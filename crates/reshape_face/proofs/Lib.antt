-- Laws of the judging of a face.
pub mod FacesJudged
