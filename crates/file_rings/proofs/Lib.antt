-- Laws of reading and of writing a ring.
pub mod RingRead
pub mod RingWritten
