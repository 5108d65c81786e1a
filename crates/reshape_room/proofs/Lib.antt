-- Laws of tables that passed the check, and of what a new vertex needs.
pub mod CheckedTables
pub mod RoomJudged
