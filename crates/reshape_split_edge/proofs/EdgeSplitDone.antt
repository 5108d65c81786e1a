-- A split of an edge: what is refused, and what an accepted one may write, so that it answers and leaves what the call promises.
-- Assumes nothing.
use mathlib.Core.Path.{◌≡◌, sym}
use mathlib.Core.List.{List, [], ◌∷◌}
use Prim.Native.Nat.{ℕ}
use lib.IntN.{ℤ}
use Rattle.rings.specs.Table.{Lent, rows, ring_of}
use Rattle.rings.specs.Accepts.{Accepts}
use Rattle.rings.specs.declared.Refusal.{Refusal}
use Rattle.reshape.specs.Reshape.{edge_rows_of}
use Rattle.reshape_tables.specs.Calls.{split_edge_verdict, edge_splitting, reshape_answer, reshaped_valences, reshaped_rings, reshaped_positions}
use Rattle.reshape_tables.proofs.Judged.{EdgeThere, NewRow, edge_split_judged}
use Rattle.reshape_tables.proofs.ReshapedTablesPassTheCheck.{edge_split_passes}
use Rattle.reshape_tables.proofs.CallsAnswered.{SplitDone, split_refused}
use Rattle.reshape_rows.specs.RowsReady.{EdgeReady}
use Rattle.reshape_rows.proofs.JudgedReady.{NewPlace, new_place, edge_ready, edge_rows_lem}
use Rattle.reshape_edge.specs.Judged.{with_edge}
use Rattle.reshape_edge.specs.declared.Edge.{Edge}
use Rattle.reshape_edge.proofs.EdgesJudged.{EdgeTold, edge_told, refusal_told}
use Rattle.std.specs.Prelude.{Ok, Err}

module _ (n : ℕ) (t : Lent) (ps : List ℤ) (u v : ℕ) where
  pub edge_refused : {r : Refusal} → Err r ≡ with_edge (split_edge_verdict n t ps u v) (rows n t) u v
      → let e = edge_splitting n t ps u v in
      (Err r ≡ reshape_answer e) × ((t.rings ≡ reshaped_rings e t.rings) × ((t.valences ≡ reshaped_valences e t.valences) × (ps ≡ reshaped_positions e n ps)))
  unfolding edge_splitting
  edge_refused h = split_refused (edge_splitting n t ps u v) (refusal_told n t u v (split_edge_verdict n t ps u v) h) n t ps

  -- the edge that was handed on
  module _ {e : Edge} (h : Ok e ≡ with_edge (split_edge_verdict n t ps u v) (rows n t) u v) where
    told : EdgeTold n t u v (split_edge_verdict n t ps u v) e
    told = edge_told n t u v (split_edge_verdict n t ps u v) h

    judged : Accepts n t ps × EdgeThere n t u v × NewRow n t ps
    judged = edge_split_judged n t ps u v (sym told.accepts)

    pub edge_splittable : EdgeReady n t e.p e.q e.a e.b
    edge_splittable = edge_ready judged.0 judged.1 told.p_is told.q_is told.a_is told.b_is

    pub edge_place : NewPlace n t ps
    edge_place = new_place judged.0 judged.2

    pub edge_split : SplitDone (edge_splitting n t ps u v) n t ps (edge_rows_of (ring_of t) e.p e.q e.a e.b n) (e.p ∷ e.q ∷ [])
    unfolding edge_splitting
    edge_split = record {
      accepts = told.accepts;
      rows_are = edge_rows_lem judged.0 judged.1 told.p_is told.q_is told.a_is told.b_is;
      between_are = rw (told.p_is, told.q_is);
      passes = edge_split_passes n t ps u v (sym told.accepts);
    }
