-- Tables that passed the check: their rings, their entries, and room in a ring. Assumes nothing.
use mathlib.Core.Path.{◌≡◌, sym, ap, ◌∙◌, subst}
use mathlib.Core.List.{List}
use Prim.Native.Nat.{ℕ, ◌<◌}
use lib.Dec.{leb}
use lib.IntN.{ℤ}
use lib.ListN.{length}
use native.Mathlib.Omega.{arith}
use Rattle.mesh.specs.Limits.{most_valence}
use Rattle.mesh.specs.Ring.{◌∈◌}
use Rattle.rings.specs.Table.{Lent, valence_at, rows, ring_of}
use Rattle.rings.specs.Check.{check_verdict}
use Rattle.rings.proofs.Rows.{rows_ring, fit_length}
use Rattle.rings.proofs.Accepted.{accepted_only, accepted_fit}
use Rattle.reshape.specs.Reshape.{full}
use Rattle.reshape_room.specs.Checked.{Checked}
use Rattle.std.specs.Prelude.{Ok}

pub passed_check : (n : ℕ) (t : Lent) (ps : List ℤ) → Ok tt ≡ check_verdict n t ps → Checked n t
passed_check n t ps h =
    let a = accepted_only n t ps (sym h) in
    record { fit = accepted_fit n t ps (sym h); sound = a.sound; high = a.high }

module _ {n : ℕ} {t : Lent} (c : Checked n t) where
  pub valence_is : (v : ℕ) → v < n → length ((rows n t).ring v) ≡ valence_at t v
  valence_is v h = ap length (rows_ring n t v h) ∙ fit_length c.fit h

  pub in_table : (v : ℕ) → v < n → v < length t.valences
  in_table v h = let r = c.fit.room.valences in omega arith

  pub entry_lt : (v x : ℕ) → v < n → x ∈ ring_of t v → x < n
  unfolding rows
  entry_lt v x h m = (c.sound.proper v h).known x (subst (λ (l : List ℕ). x ∈ l) (sym (rows_ring n t v h)) m)

  pub full_is : (v : ℕ) → v < n → leb most_valence (valence_at t v) ≡ full (rows n t) v
  unfolding full
  full_is v h = rw (valence_is v h)
