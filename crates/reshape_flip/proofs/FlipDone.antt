-- A flip: what is refused, and what an accepted one may write, so that it answers and leaves what the call promises.
-- Assumes nothing.
use mathlib.Core.Path.{◌≡◌, sym}
use mathlib.Core.List.{List}
use Prim.Native.Nat.{ℕ}
use lib.IntN.{ℤ}
use Rattle.mesh.specs.Limits.{most_count}
use Rattle.rings.specs.Table.{Lent, rows, ring_of}
use Rattle.rings.specs.Accepts.{Accepts}
use Rattle.rings.specs.declared.Refusal.{Refusal}
use Rattle.reshape.specs.Reshape.{flip_rows_of}
use Rattle.reshape_tables.specs.Calls.{flip_verdict, edge_flipping, reshape_answer, reshaped_valences, reshaped_rings}
use Rattle.reshape_tables.proofs.Judged.{EdgeThere, flip_judged}
use Rattle.reshape_tables.proofs.ReshapedTablesPassTheCheck.{flip_passes_check}
use Rattle.reshape_tables.proofs.CallsAnswered as calls
use Rattle.reshape_rows.specs.RowsReady.{EdgeReady}
use Rattle.reshape_rows.proofs.JudgedReady.{edge_ready, flip_rows_lem, ready_below}
use Rattle.reshape_edge.specs.Judged.{with_edge}
use Rattle.reshape_edge.specs.declared.Edge.{Edge}
use Rattle.reshape_edge.proofs.EdgesJudged.{EdgeTold, edge_told, refusal_told}
use Rattle.std.specs.Prelude.{Ok, Err}

module _ (n : ℕ) (t : Lent) (ps : List ℤ) (u v : ℕ) where
  pub flip_refused : {r : Refusal} → Err r ≡ with_edge (flip_verdict n t ps u v) (rows n t) u v
      → let e = edge_flipping n t ps u v in
      (Err r ≡ reshape_answer e) × ((t.rings ≡ reshaped_rings e t.rings) × (t.valences ≡ reshaped_valences e t.valences))
  unfolding edge_flipping
  flip_refused h = calls.flip_refused (edge_flipping n t ps u v) (refusal_told n t u v (flip_verdict n t ps u v) h) t

  -- the edge that was handed on
  module _ {e : Edge} (h : Ok e ≡ with_edge (flip_verdict n t ps u v) (rows n t) u v) where
    told : EdgeTold n t u v (flip_verdict n t ps u v) e
    told = edge_told n t u v (flip_verdict n t ps u v) h

    judged : Accepts n t ps × EdgeThere n t u v
    judged = let j = flip_judged n t ps u v (sym told.accepts) in (j.0, j.1)

    pub flippable : EdgeReady most_count t e.p e.q e.a e.b
    flippable = ready_below judged.0.high (edge_ready judged.0 judged.1 told.p_is told.q_is told.a_is told.b_is)

    pub flipped : calls.EditDone (edge_flipping n t ps u v) n t ps (flip_rows_of (ring_of t) e.p e.q e.a e.b)
    unfolding edge_flipping
    flipped = record {
      accepts = told.accepts;
      rows_are = flip_rows_lem judged.0 judged.1 told.p_is told.q_is told.a_is told.b_is;
      passes = flip_passes_check n t ps u v (sym told.accepts);
    }
