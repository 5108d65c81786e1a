-- What an edit answers and leaves in the tables, as a call finds it: refused by its verdict, or with its rows and its point written.
-- Assumes nothing.
use mathlib.Core.Path.{◌≡◌, sym, ap, ◌∙◌}
use mathlib.Core.List.{List}
use Prim.Native.Nat.{ℕ, suc, ◌+◌, ◌*◌, ◌≤◌}
use native.Mathlib.Numerals.{add-one}
use lib.IntN.{ℤ}
use lib.ListN.{length, get_or}
use Rattle.mesh.specs.Limits.{most_count}
use Rattle.mesh.specs.Search.{sum}
use Rattle.units.specs.declared.Point.{Point}
use Rattle.rings.specs.Table.{Lent, lent, put}
use Rattle.rings.specs.Verdict.{after, with_counts}
use Rattle.rings.specs.Check.{counts_of}
use Rattle.rings.specs.declared.Refusal.{Refusal}
use Rattle.rings.proofs.Accepted.{accepted_only, check_counts}
use Rattle.loop_points.specs.Level.{point_by, coordinates}
use Rattle.reshape.specs.Rows.{Row}
use Rattle.reshape.specs.Mean.{mean_mask}
use Rattle.reshape_tables.specs.Written.{valences_by, rings_by, mean_put}
use Rattle.reshape_tables.specs.Calls.{Reshaping, reshape_answer, reshaped_valences, reshaped_rings, reshaped_positions}
use Rattle.reshape_tables.proofs.ReshapedTablesPassTheCheck.{Passed}
use Rattle.rings.specs.Refusal.{Counted}
use Rattle.std.specs.Prelude.{Ok, Err}

-- ---- refused

module _ (e : Reshaping) {r : Refusal} (h : Err r ≡ e.verdict) where
  refused_answer : Err r ≡ reshape_answer e
  unfolding reshape_answer with_counts
  refused_answer = rw (← h)

  refused_rings : (rs : List ℕ) → rs ≡ reshaped_rings e rs
  unfolding reshaped_rings after
  refused_rings rs = rw (← h)

  refused_valences : (vs : List ℕ) → vs ≡ reshaped_valences e vs
  unfolding reshaped_valences after
  refused_valences vs = rw (← h)

  refused_positions : (n : ℕ) (ps : List ℤ) → ps ≡ reshaped_positions e n ps
  unfolding reshaped_positions after
  refused_positions n ps = rw (← h)

  pub flip_refused : (t : Lent) → (Err r ≡ reshape_answer e) × ((t.rings ≡ reshaped_rings e t.rings) × (t.valences ≡ reshaped_valences e t.valences))
  flip_refused t = (refused_answer, (refused_rings t.rings, refused_valences t.valences))

  pub split_refused : (n : ℕ) (t : Lent) (ps : List ℤ)
      → (Err r ≡ reshape_answer e) × ((t.rings ≡ reshaped_rings e t.rings) × ((t.valences ≡ reshaped_valences e t.valences) × (ps ≡ reshaped_positions e n ps)))
  split_refused n t ps = (refused_answer, (refused_rings t.rings, (refused_valences t.valences, refused_positions n ps)))

-- ---- accepted

-- the edit is accepted, its rows are l, and the tables of n vertices after it pass the check
pub record EditDone (e : Reshaping) (n : ℕ) (t : Lent) (ps : List ℤ) (l : List Row) : Type 0 where
  pub accepts : Ok tt ≡ e.verdict
  pub rows_are : l ≡ e.written
  pub passes : Passed e n (lent (reshaped_valences e t.valences) (reshaped_rings e t.rings)) ps

-- once the rows are written
module _ {e : Reshaping} {n : ℕ} {t : Lent} {ps : List ℤ} {l : List Row} (d : EditDone e n t ps l)
    {rs' vs' : List ℕ} (k : rs' ≡ rings_by l t.rings) (w : vs' ≡ valences_by l t.valences) where
  rings_written : rs' ≡ reshaped_rings e t.rings
  unfolding reshaped_rings after
  rings_written = k ∙ rw (← d.accepts) (ap (λ (rows : List Row). rings_by rows t.rings) d.rows_are)

  valences_written : vs' ≡ reshaped_valences e t.valences
  unfolding reshaped_valences after
  valences_written = w ∙ rw (← d.accepts) (ap (λ (rows : List Row). valences_by rows t.valences) d.rows_are)

  -- there is a valence for each vertex
  pub edited_long : (n ≤ length vs') × (n ≤ most_count)
  edited_long = let a = accepted_only n _ ps d.passes.checks in rw valences_written (a.room.valences, a.high)

  -- V, E and F as they are counted in the tables
  pub edited_done : {x : Counted} → x ≡ counts_of n (sum (λ v. get_or vs' v 0) n)
      → (x ≡ reshape_answer e) × ((rs' ≡ reshaped_rings e t.rings) × (vs' ≡ reshaped_valences e t.valences))
  edited_done s = (
    s
        ∙ ap (λ (y : List ℕ). counts_of n (sum (λ v. get_or y v 0) n)) valences_written
        ∙ check_counts n _ ps (sym d.passes.checks)
        ∙ d.passes.answers,
    (rings_written, valences_written),
  )

-- a split of n vertices whose new one lies between these corners
pub record SplitDone (e : Reshaping) (n : ℕ) (t : Lent) (ps : List ℤ) (l : List Row) (corners : List ℕ) : Type 0 where
  pub accepts : Ok tt ≡ e.verdict
  pub rows_are : l ≡ e.written
  pub between_are : corners ≡ e.between
  pub passes : Passed e (suc n) (lent (reshaped_valences e t.valences) (reshaped_rings e t.rings)) (reshaped_positions e n ps)

-- once its rows and its point are written
module _ {e : Reshaping} {n : ℕ} {t : Lent} {ps : List ℤ} {l : List Row} {corners : List ℕ} (d : SplitDone e n t ps l corners) where
  edited : EditDone e (n + 1) t (reshaped_positions e n ps) l
  edited = record { accepts = d.accepts; rows_are = d.rows_are; passes = rw (add-one n) d.passes }

  module _ {ps' : List ℤ} {point : Point} (table : ps' ≡ put ps (n * 3) (coordinates point)) (m : point ≡ point_by (mean_mask corners) ps) where
    positions_written : ps' ≡ reshaped_positions e n ps
    unfolding reshaped_positions after mean_put
    positions_written =
        table
        ∙ ap (λ (x : Point). put ps (n * 3) (coordinates x)) m
        ∙ rw (← d.accepts) (ap (λ (y : List ℕ). mean_put n y ps) d.between_are)

  module _ {rs' vs' : List ℕ} (k : rs' ≡ rings_by l t.rings) (w : vs' ≡ valences_by l t.valences) where
    pub split_long : (n + 1 ≤ length vs') × (n + 1 ≤ most_count)
    split_long = edited_long edited k w

    pub split_done : {ps' : List ℤ} {point : Point} → ps' ≡ put ps (n * 3) (coordinates point) → point ≡ point_by (mean_mask corners) ps
        → {x : Counted} → x ≡ counts_of (n + 1) (sum (λ v. get_or vs' v 0) (n + 1))
        → (x ≡ reshape_answer e) × ((rs' ≡ reshaped_rings e t.rings) × ((vs' ≡ reshaped_valences e t.valences) × (ps' ≡ reshaped_positions e n ps)))
    split_done table m s = let f = edited_done edited k w s in (f.0, (f.1.0, (f.1.1, positions_written table m)))
