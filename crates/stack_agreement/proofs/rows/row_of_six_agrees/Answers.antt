-- `row_of_six_agrees` meets its contract. Assumes nothing.
use Rattle.stack_agreement.proofs.Telling.{six_agree}
use Rattle.stack_agreement.proofs.rows.row_of_six_agrees.Goals as goal
use Rattle.stack_agreement.proofs.rows.row_of_six_agrees.Goals.{then-is_edge_vertex, else-is_edge_vertex, then-is_edge_vertex-2, else-is_edge_vertex-2, then-is_edge_vertex-3, else-is_edge_vertex-3, then-is_edge_vertex-4, else-is_edge_vertex-4}

pub returns-then-is_edge_vertex-5 : goal.returns-then-is_edge_vertex-5
returns-then-is_edge_vertex-5 c = λ e.
    elim c.if-is_edge_vertex-4.branch [
      | else-is_edge_vertex-4 z ↦ cc
      | then-is_edge_vertex-4 z ↦
          elim c.if-is_edge_vertex-3.branch [
            | else-is_edge_vertex-3 y ↦ cc
            | then-is_edge_vertex-3 y ↦
                elim c.if-is_edge_vertex-2.branch [
                  | else-is_edge_vertex-2 x ↦ cc
                  | then-is_edge_vertex-2 x ↦
                      elim c.if-is_edge_vertex.branch [
                        | else-is_edge_vertex w ↦ cc
                        | then-is_edge_vertex w ↦
                            six_agree c.requires.row_len (c.is_edge_vertex.ensures w.if-is_edge_vertex.true)
                            (w.is_edge_vertex-then-is_edge_vertex.ensures (cc))
                            (x.is_edge_vertex-then-is_edge_vertex-2.ensures (cc))
                            (y.is_edge_vertex-then-is_edge_vertex-3.ensures (cc))
                            (z.is_edge_vertex-then-is_edge_vertex-4.ensures (cc))
                            (c.is_edge_vertex-then-is_edge_vertex-5.ensures e)
                      ]
                ]
          ]
    ]
