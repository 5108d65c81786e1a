-- A row of fit tables is ready for an edit of one entry. Assumes nothing.
use mathlib.Core.Path.{ap, ◌∙◌, subst}
use mathlib.Core.List.{List}
use Prim.Native.Nat.{ℕ, ◌+◌, ◌≤◌, ◌<◌}
use native.Mathlib.Omega.{arith}
use lib.ListN.{length}
use Rattle.mesh.specs.Limits.{most_valence}
use Rattle.mesh.specs.Ring.{◌∈◌}
use Rattle.rings.specs.Table.{Lent, rows}
use Rattle.rings.specs.Accepts.{Fit}
use Rattle.rings.proofs.Rows.{rows_ring, fit_length}
use Rattle.ring_row.proofs.OneRow.{room_editable}
use Rattle.reshape_entry.specs.Ready.{Ready}

-- by the ring that the mesh of the tables has
pub fit_ready : {n : ℕ} {t : Lent} → Fit n t → (more v c : ℕ) → v < n → length ((rows n t).ring v) + more ≤ most_valence
    → c ∈ (rows n t).ring v → Ready more t v c
fit_ready {n} {t} f more v c h l m =
    let e = ap length (rows_ring n t v h) ∙ fit_length f h in
    record {
      row = room_editable f.room h;
      room = omega (arith, l, e);
      there = subst (λ (table : List ℕ). c ∈ table) (rows_ring n t v h) m;
    }
