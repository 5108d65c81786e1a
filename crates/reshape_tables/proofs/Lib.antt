-- The calls that reshape the control mesh: the rows written, the tables that an accepted one leaves, and what each answers.
pub mod RowsWritten
pub mod AcceptedTables
pub mod Judged
pub mod RowsFitted
pub mod ReshapedTablesPassTheCheck
pub mod CallsAnswered
pub mod CallsByOtherNames
pub mod FlippingBackIsAccepted
