-- Units in a text that is judged.
pub mod Past
