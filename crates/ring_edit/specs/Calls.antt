-- To be believed.
-- The ring edits: what each judges, whether it has an effect, and what it makes of v's ring (document 01, "Ring rules").
-- Assumes nothing.
use Rattle.std.specs.Prelude.{true, ◌&&◌, List, ℕ, leb, Ok}
use Rattle.mesh.specs.Limits.{most_valence}
use Rattle.mesh.specs.Ring.{has}
use Rattle.mesh.specs.Edits.{erase, replace, insert_after, insert_before}
use Rattle.rings.specs.Table.{Lent, valence_at, ring_of}
use Rattle.rings.specs.Verdict.{refuse_if, and_then}
use Rattle.rings.specs.declared.Refusal.TheVariants.{RingFull}
use Rattle.ring_judge.specs.Judging.{call_verdict, make_verdict, entry_verdict}
use Rattle.ring_row.specs.Edit.{Edit}
use Rattle.rings.specs.Refusal.{Verdict}

module _ (n : ℕ) (t : Lent) (v : ℕ) where
  -- make: the list, whatever v's ring was
  unfoldable pub make_edit : List ℕ → Edit
  make_edit l = record { verdict = make_verdict n t v l; effect = true; ring = l }

  -- erase x, which may be any number: one that is not there has no effect
  unfoldable pub erase_edit : ℕ → Edit
  erase_edit x = record { verdict = call_verdict n t v; effect = has x (ring_of t v); ring = erase x (ring_of t v) }

  -- replace a with x: an a that is not there, of any value, has no effect
  unfoldable pub replace_edit : ℕ → ℕ → Edit
  replace_edit a x = record { verdict = entry_verdict n t v x; effect = has a (ring_of t v); ring = replace a x (ring_of t v) }

  -- 16 comes last: a full ring refuses an insertion only where a is there
  unfoldable pub insert_verdict : ℕ → ℕ → Verdict
  insert_verdict a x = and_then (entry_verdict n t v x) (refuse_if (has a (ring_of t v) && leb most_valence (valence_at t v)) RingFull (Ok tt))

  -- insert x after a
  unfoldable pub insert_after_edit : ℕ → ℕ → Edit
  insert_after_edit a x = record { verdict = insert_verdict a x; effect = has a (ring_of t v); ring = insert_after a x (ring_of t v) }

  -- insert x before a
  unfoldable pub insert_before_edit : ℕ → ℕ → Edit
  insert_before_edit a x = record { verdict = insert_verdict a x; effect = has a (ring_of t v); ring = insert_before a x (ring_of t v) }
