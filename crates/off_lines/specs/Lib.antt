-- Lines of a face list, written.
pub mod Written
