-- Laws on the queries.
pub mod QueryAnswers
