-- Laws on a list of moves as one call.
pub mod RecordLists
