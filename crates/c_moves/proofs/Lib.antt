-- Laws on the records' kinds, and on the walk of their moves.
pub mod RecordKinds
pub mod RecordWalks
