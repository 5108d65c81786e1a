-- Laws of the judging of an edge.
pub mod EdgesJudged
