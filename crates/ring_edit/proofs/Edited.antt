-- What each edit promises of its answer and of the two tables, once x or a was looked for. Assumes nothing.
use Prim.Native.Nat.{ℕ, suc, ◌+◌}
use mathlib.Core.Path.{◌≡◌}
use mathlib.Core.Bool.{true, false}
use mathlib.Core.List.{List}
use native.Mathlib.Omega.{arith}
use lib.Dec.{leb}
use lib.ListN.{set}
use Rattle.mesh.specs.Ring.{has, place, place_of}
use Rattle.mesh.specs.Edits.{closed, erase, replace, insert_after, insert_before}
use Rattle.mesh.proofs.Places.{placed, absent}
use Rattle.rings.specs.Table.{Lent, valence_at, ring_of}
use Rattle.rings.specs.Verdict.{refuse_if, and_then}
use Rattle.rings.specs.declared.Refusal.{Refusal}
use Rattle.rings.specs.declared.Refusal.TheVariants.{RingFull}
use Rattle.ring_judge.specs.Judging.{call_verdict, make_verdict, entry_verdict}
use Rattle.ring_row.specs.Places.{open_edit}
use Rattle.ring_row.specs.Edit.{Edit, valences_with, rings_with, valences_after, rings_after}
use Rattle.ring_row.proofs.TablesWritten.{edit_refused, edit_idle, edit_done}
use Rattle.ring_edit.specs.Calls.{make_edit, erase_edit, replace_edit, insert_verdict, insert_after_edit, insert_before_edit}
use Rattle.ring_edit.specs.Beside.{beside_edit}
use Rattle.rings.specs.Refusal.{Verdict}
use Rattle.std.specs.declared.option.Option.TheVariants.{Some, None}
use Rattle.std.specs.Prelude.{Ok, Err}

-- what a call promises
abbrev pub Promised : Edit → Lent → ℕ → Verdict → List ℕ → List ℕ → Type 0
Promised e t v r rs' vs' = (r ≡ e.verdict) × ((rs' ≡ rings_after e t.rings v) × (vs' ≡ valences_after e t.valences v))

module _ (n : ℕ) (t : Lent) (v : ℕ) where
  -- ---- refused

  pub make_refused : (l : List ℕ) (r : Refusal) → Err r ≡ make_verdict n t v l → Promised (make_edit n t v l) t v (Err r) t.rings t.valences
  unfolding make_edit
  make_refused l r e = (e, edit_refused t v (make_edit n t v l) r e)

  pub erase_refused : (x : ℕ) (r : Refusal) → Err r ≡ call_verdict n t v → Promised (erase_edit n t v x) t v (Err r) t.rings t.valences
  unfolding erase_edit
  erase_refused x r e = (e, edit_refused t v (erase_edit n t v x) r e)

  pub replace_refused : (a x : ℕ) (r : Refusal) → Err r ≡ entry_verdict n t v x → Promised (replace_edit n t v a x) t v (Err r) t.rings t.valences
  unfolding replace_edit
  replace_refused a x r e = (e, edit_refused t v (replace_edit n t v a x) r e)

  insert_refused : (a x : ℕ) (r : Refusal) → Err r ≡ entry_verdict n t v x → Err r ≡ insert_verdict n t v a x
  unfolding insert_verdict and_then
  insert_refused a x r e = rw (← e)

  pub beside_refused : (a x behind : ℕ) (r : Refusal) → Err r ≡ entry_verdict n t v x → Promised (beside_edit n t v a x behind) t v (Err r) t.rings t.valences
  unfolding beside_edit
  beside_refused a x behind r e = let k = insert_refused a x r e in (k, edit_refused t v (beside_edit n t v a x behind) r k)

  -- ---- accepted

  module _ (x : ℕ) (e : (Ok tt) ≡ call_verdict n t v) where
    pub erase_idle : None ≡ place_of x (ring_of t v) → Promised (erase_edit n t v x) t v (Ok tt) t.rings t.valences
    unfolding erase_edit
    erase_idle q = (e, edit_idle t v (erase_edit n t v x) e (absent x (ring_of t v) q))

    pub erase_done : (i : ℕ) → Some i ≡ place_of x (ring_of t v) → (rs' vs' : List ℕ) → rs' ≡ rings_with true t.rings v (closed (ring_of t v) i) → vs' ≡ valences_with true t.valences v (closed (ring_of t v) i)
        → Promised (erase_edit n t v x) t v (Ok tt) rs' vs'
    unfolding erase_edit erase
    erase_done i q rs' vs' a b =
        let p = placed x (ring_of t v) i q in
        (e, edit_done t v (erase_edit n t v x) e p.0 (closed (ring_of t v) i) (rw (p.0, ← p.1)) rs' vs' a b)

  module _ (a x : ℕ) (e : (Ok tt) ≡ entry_verdict n t v x) where
    pub replace_idle : None ≡ place_of a (ring_of t v) → Promised (replace_edit n t v a x) t v (Ok tt) t.rings t.valences
    unfolding replace_edit
    replace_idle q = (e, edit_idle t v (replace_edit n t v a x) e (absent a (ring_of t v) q))

    pub replace_done : (i : ℕ) → Some i ≡ place_of a (ring_of t v) → (rs' vs' : List ℕ) → rs' ≡ rings_with true t.rings v (set (ring_of t v) i x) → vs' ≡ valences_with true t.valences v (set (ring_of t v) i x)
        → Promised (replace_edit n t v a x) t v (Ok tt) rs' vs'
    unfolding replace_edit replace
    replace_done i q rs' vs' b d =
        let p = placed a (ring_of t v) i q in
        (e, edit_done t v (replace_edit n t v a x) e p.0 (set (ring_of t v) i x) (rw (p.0, ← p.1)) rs' vs' b d)

    insert_accepted : has a (ring_of t v) ≡ false → (Ok tt) ≡ insert_verdict n t v a x
    unfolding insert_verdict and_then refuse_if
    insert_accepted h = rw (← e, h)

    insert_room : has a (ring_of t v) ≡ true → refuse_if (leb 32 (valence_at t v)) RingFull (Ok tt) ≡ insert_verdict n t v a x
    unfolding insert_verdict and_then
    insert_room h = rw (← e, h)

    pub beside_idle : (behind : ℕ) → None ≡ place_of a (ring_of t v) → Promised (beside_edit n t v a x behind) t v (Ok tt) t.rings t.valences
    unfolding beside_edit
    beside_idle behind q = let h = absent a (ring_of t v) q in let k = insert_accepted h in (k, edit_idle t v (beside_edit n t v a x behind) k h)

    module _ (behind i : ℕ) (q : Some i ≡ place_of a (ring_of t v)) where
      beside_same : open_edit t v (behind + i) x ≡ beside_edit n t v a x behind
      unfolding open_edit beside_edit
      beside_same = let p = placed a (ring_of t v) i q in rw (← insert_room p.0, p.0, ← p.1)

      pub beside_done : (r : Verdict) (rs' vs' : List ℕ) → Promised (open_edit t v (behind + i) x) t v r rs' vs' → Promised (beside_edit n t v a x behind) t v r rs' vs'
      beside_done r rs' vs' h = rw beside_same at h

  module _ (a x : ℕ) where
    after_same : beside_edit n t v a x 1 ≡ insert_after_edit n t v a x
    unfolding beside_edit insert_after_edit insert_after
    after_same = let k : 1 + place a (ring_of t v) ≡ suc (place a (ring_of t v)) = omega arith in rw k

    before_same : beside_edit n t v a x 0 ≡ insert_before_edit n t v a x
    unfolding beside_edit insert_before_edit insert_before
    before_same = let k : 0 + place a (ring_of t v) ≡ place a (ring_of t v) = omega arith in rw k

    module _ (r : Verdict) (rs' vs' : List ℕ) where
      pub after_told : Promised (beside_edit n t v a x 1) t v r rs' vs' → Promised (insert_after_edit n t v a x) t v r rs' vs'
      after_told h = rw after_same at h

      pub before_told : Promised (beside_edit n t v a x 0) t v r rs' vs' → Promised (insert_before_edit n t v a x) t v r rs' vs'
      before_told h = rw before_same at h
