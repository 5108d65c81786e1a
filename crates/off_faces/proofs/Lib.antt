-- Laws of the faces written.
pub mod FacesInOrder
pub mod FacesWritten
