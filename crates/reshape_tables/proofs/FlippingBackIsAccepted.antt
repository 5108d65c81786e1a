-- The flip of the edge that a flip made (document 02, order 1), as a call: it is never refused, and it gives back the old rings up to where each begins.
-- Assumes nothing.
use mathlib.Core.Path.{◌≡◌, refl, sym, subst}
use mathlib.Core.List.{List}
use Prim.Native.Nat.{ℕ, ◌<◌, min, max}
use native.Mathlib.Omega.{arith}
use lib.IntN.{ℤ}
use borrow.Author.Tests.{lt-leb}
use Rattle.mesh.specs.Ring.{SameRound}
use Rattle.mesh.specs.Mesh.{Mesh}
use Rattle.rings.specs.Table.{Lent, lent, rows}
use Rattle.rings.specs.Verdict.{refuse_if, and_then}
use Rattle.reshape.specs.Reshape.{beyond, behind, flip}
use Rattle.reshape.specs.Rows.{rewritten}
use Rattle.reshape.proofs.FlipBack.{Undone}
use Rattle.reshape.proofs.FlippingBackGivesTheOldRings.{may_be_flipped_back, flipping_back}
use Rattle.reshape_tables.specs.Calls.{edge_verdict, turn_verdict, flip_verdict, edge_flipping, reshaped_valences, reshaped_rings}
use Rattle.reshape_tables.proofs.Judged.{flip_judged}
use Rattle.reshape_tables.proofs.ReshapedTablesPassTheCheck.{Passed, flip_passes_check}
use Rattle.std.specs.Prelude.{Ok}

-- an edge that no test refuses, in tables that hold this mesh
undone_judged : (n : ℕ) (t : Lent) (M N : Mesh) (a b : ℕ) → rows n t ≡ N → N.count ≡ n → Undone M N (min a b) (max a b)
    → (edge_verdict n t a b ≡ Ok tt) × (turn_verdict n t a b ≡ Ok tt)
unfolding edge_verdict turn_verdict refuse_if
undone_judged n t M N a b m c d =
    let x = d.known.0 in
    let y = d.known.1 in
    (rw (lt-leb n a (omega arith), lt-leb n b (omega arith), m, d.edge, d.room), rw (m, d.loose))

module _ (n : ℕ) (t : Lent) (ps : List ℤ) (u v : ℕ) (h : flip_verdict n t ps u v ≡ Ok tt) where
  -- the vertices that the flip joins, and the tables after it
  abbrev pub joined_a : ℕ
  joined_a = beyond (rows n t) (min u v) (max u v)

  abbrev pub joined_b : ℕ
  joined_b = behind (rows n t) (min u v) (max u v)

  abbrev pub flipped_valences : List ℕ
  flipped_valences = reshaped_valences (edge_flipping n t ps u v) t.valences

  abbrev pub flipped_rings : List ℕ
  flipped_rings = reshaped_rings (edge_flipping n t ps u v) t.rings

  passed : Passed (edge_flipping n t ps u v) n (lent flipped_valences flipped_rings) ps
  passed = flip_passes_check n t ps u v h

  holds : rows n (lent flipped_valences flipped_rings) ≡ flip (rows n t) u v
  unfolding edge_flipping
  holds = passed.mesh

  back : Undone (rows n t) (flip (rows n t) u v) (min joined_a joined_b) (max joined_a joined_b)
  unfolding rows
  back =
      let j = flip_judged n t ps u v h in
      may_be_flipped_back (rows n t) j.0.sound u v j.1.u_lt j.1.v_lt j.1.edge j.1.room j.2

  counted : (flip (rows n t) u v).count ≡ n
  unfolding flip rows rewritten
  counted = refl

  pub flipping_back_is_accepted : flip_verdict n (lent flipped_valences flipped_rings) ps joined_a joined_b ≡ Ok tt
  unfolding flip_verdict and_then
  flipping_back_is_accepted =
      let d = undone_judged n (lent flipped_valences flipped_rings) (rows n t) (flip (rows n t) u v) joined_a joined_b holds counted back in
      rw (passed.checks, d.0) d.1

  again : (y : ℕ) → y < n → SameRound ((rows n t).ring y) ((flip (flip (rows n t) u v) joined_a joined_b).ring y)
  unfolding rows
  again y l =
      let j = flip_judged n t ps u v h in
      flipping_back (rows n t) j.0.sound u v j.1.u_lt j.1.v_lt j.1.edge j.1.room j.2 y l

  pub rings_come_back : (y : ℕ) → y < n
      → SameRound ((rows n t).ring y) ((edge_flipping n (lent flipped_valences flipped_rings) ps joined_a joined_b).result.ring y)
  unfolding edge_flipping
  rings_come_back y l = subst (λ (N : Mesh). SameRound ((rows n t).ring y) ((flip N joined_a joined_b).ring y)) (sym holds) (again y l)
