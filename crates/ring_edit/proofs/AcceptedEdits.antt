-- What an accepted edit tells, for each of the five: v's row can be written, the new ring may be the ring of v, and without effect it is the old one. Assumes nothing.
use mathlib.Core.Path.{◌≡◌, refl, sym}
use mathlib.Core.Bool.{false, ◌&&◌}
use mathlib.Core.List.{List}
use Prim.Native.Nat.{ℕ, ◌+◌, ◌≤◌}
use native.Mathlib.Omega.{arith}
use lib.Dec.{eqb, leb}
use lib.ListN.{length}
use Rattle.mesh.specs.Search.{bit}
use Rattle.mesh.specs.Ring.{times, has}
use Rattle.mesh.specs.Edits.{erase, replace, insert_after, insert_before}
use Rattle.mesh.specs.Mesh.{Proper}
use Rattle.mesh.proofs.Checked.{proper_of}
use Rattle.mesh.proofs.First.{true_not_false}
use Rattle.rings.specs.Table.{Lent, valence_at, ring_of, rows}
use Rattle.rings.proofs.Rows.{rows_ring, row_length, improper_row_lem}
use Rattle.rings.proofs.Verdicts.{if_accepted, then_accepted}
use Rattle.ring_row.specs.Edit.{Edit}
use Rattle.ring_judge.specs.Judging.{table_verdict, call_verdict, taken, entry_verdict}
use Rattle.ring_edit.specs.Calls.{make_edit, erase_edit, replace_edit, insert_verdict, insert_after_edit, insert_before_edit}
use Rattle.ring_edit.specs.AnyEdit.{Call, Make, Erase, Replace, InsertAfter, InsertBefore, edit_of}
use Rattle.ring_judge.proofs.Judged.{tabled, called, entered, made}
use Rattle.ring_edit.proofs.ProperLists.{alone, same_proper, made_proper, part_proper, more_proper, erase_part, replace_more, after_more, before_more, free_entry}
use Rattle.std.specs.Prelude.{Ok}

module _ (n : ℕ) (t : Lent) (v : ℕ) where
  pub record Fair (e : Edit) : Type 0 where
    pub tables : (Ok tt) ≡ e.verdict → (Ok tt) ≡ table_verdict n t v
    pub proper : (Ok tt) ≡ e.verdict → Proper (alone n e.ring) v
    pub idle : e.effect ≡ false → e.ring ≡ ring_of t v

  old_proper : (Ok tt) ≡ call_verdict n t v → Proper (alone n (ring_of t v)) v
  unfolding rows
  old_proper h =
      let c = called n t v h in
      same_proper (rows n t) (alone n (ring_of t v)) v refl (rows_ring n t v (tabled n t v c.tables).below) (proper_of (rows n t) v (improper_row_lem n t v c.proper).1)

  old_long : (Ok tt) ≡ call_verdict n t v → length (ring_of t v) ≡ valence_at t v
  old_long h = row_length t v (called n t v h).row

  erase_fair : (x : ℕ) → Fair (erase_edit n t v x)
  unfolding erase_edit erase
  erase_fair x = record {
    tables = λ h. (called n t v h).tables;
    proper =
        λ h. let p = old_proper h in let s = p.short in let f = erase_part x (ring_of t v) in part_proper n v (ring_of t v) (erase x (ring_of t v)) p (let k = f.0 in omega arith) f.1;
    idle = λ q. rw q;
  }

  -- a list that has only x besides the old ring
  entry_proper : (x : ℕ) → (Ok tt) ≡ entry_verdict n t v x → (r : List ℕ) → length r ≤ 32 → ((y : ℕ) → times y r ≤ bit (eqb y x) + times y (ring_of t v)) → Proper (alone n r) v
  unfolding taken
  entry_proper x h r k f =
      let e = entered n t v x h in
      let g = free_entry x v (ring_of t v) e.free in
      more_proper n v (ring_of t v) r (old_proper e.call) k x e.known g.0 g.1 f

  replace_fair : (a x : ℕ) → Fair (replace_edit n t v a x)
  unfolding replace_edit replace
  replace_fair a x = record {
    tables = λ h. (called n t v (entered n t v x h).call).tables;
    proper =
        λ h. let s = (old_proper (entered n t v x h).call).short in let f = replace_more a x (ring_of t v) in entry_proper x h (replace a x (ring_of t v)) (let k = f.0 in omega arith) f.1;
    idle = λ q. rw q;
  }

  -- an inserting that was accepted: x may come in, and there is room where a is there
  inserted : (a x : ℕ) → (Ok tt) ≡ insert_verdict n t v a x → ((Ok tt) ≡ entry_verdict n t v x) × (has a (ring_of t v) && leb 32 (valence_at t v) ≡ false)
  unfolding insert_verdict
  inserted a x h = let b = then_accepted (entry_verdict n t v x) _ (sym h) in (sym b.0, (if_accepted _ _ _ b.1).0)

  old_most : (x : ℕ) → (Ok tt) ≡ entry_verdict n t v x → (length (ring_of t v) ≤ valence_at t v) × (valence_at t v ≤ 32)
  old_most x h = let c = (entered n t v x h).call in let l = old_long c in (omega arith, (called n t v c).most)

  after_fair : (a x : ℕ) → Fair (insert_after_edit n t v a x)
  unfolding insert_after_edit insert_after
  after_fair a x = record {
    tables = λ h. (called n t v (entered n t v x (inserted a x h).0).call).tables;
    proper =
        λ h. let i = inserted a x h in let m = old_most x i.0 in let f = after_more a x (ring_of t v) (valence_at t v) m.0 m.1 i.1 in entry_proper x i.0 (insert_after a x (ring_of t v)) f.0 f.1;
    idle = λ q. rw q;
  }

  before_fair : (a x : ℕ) → Fair (insert_before_edit n t v a x)
  unfolding insert_before_edit insert_before
  before_fair a x = record {
    tables = λ h. (called n t v (entered n t v x (inserted a x h).0).call).tables;
    proper =
        λ h. let i = inserted a x h in let m = old_most x i.0 in let f = before_more a x (ring_of t v) (valence_at t v) m.0 m.1 i.1 in entry_proper x i.0 (insert_before a x (ring_of t v)) f.0 f.1;
    idle = λ q. rw q;
  }

  make_fair : (l : List ℕ) → Fair (make_edit n t v l)
  unfolding make_edit
  make_fair l = record {
    tables = λ h. (made n t v l h).tables;
    proper = λ h. let m = made n t v l h in made_proper n v l m.most m.good;
    idle = λ q. absurd (true_not_false refl q);
  }

  pub fair : (k : Call) → Fair (edit_of n t v k)
  fair (Make l) = make_fair l
  fair (Erase x) = erase_fair x
  fair (Replace a x) = replace_fair a x
  fair (InsertAfter a x) = after_fair a x
  fair (InsertBefore a x) = before_fair a x
