-- To be believed.
-- What a query's answer is in document 01's terms: number, place and value. A refused query has the value of one that found nothing.
-- Assumes nothing.
use Rattle.std.specs.Prelude.{true, false, Ok, Err}
use Rattle.std.specs.declared.option.Option.TheVariants.{Some, None}
use Rattle.mesh.specs.Limits.{null_vertex}
use Rattle.rings.specs.Refusal.{Paper, accepted, reason}
use Rattle.ring_query.specs.Queries.{Answer, Neighbour}

-- 1 for yes, 0 for no
abbrev pub paper_answer : Answer → Paper
paper_answer (Ok true) = accepted 1 0 0
paper_answer (Ok false) = accepted 0 0 0
paper_answer (Err r) = reason r 0

-- a neighbour, or the null vertex
abbrev pub paper_neighbour : Neighbour → Paper
paper_neighbour (Ok (Some x)) = accepted x 0 0
paper_neighbour (Ok None) = accepted null_vertex 0 0
paper_neighbour (Err r) = reason r null_vertex
