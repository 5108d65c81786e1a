-- What an accepted call tells an edit of the tables that it writes. Assumes nothing.
use Prim.Native.Nat.{ℕ, ◌≤◌, ◌<◌}
use mathlib.Core.Path.{◌≡◌}
use native.Mathlib.Omega.{arith}
use Rattle.mesh.specs.Ring.{place_of}
use Rattle.mesh.proofs.Places.{placed}
use Rattle.rings.specs.Table.{Lent, valence_at, ring_of}
use Rattle.rings.proofs.Rows.{row_length}
use Rattle.ring_judge.specs.Judging.{table_verdict, call_verdict}
use Rattle.ring_judge.proofs.Judged.{tabled, called}
use Rattle.ring_row.specs.Places.{Editable}
use Rattle.ring_row.proofs.OneRow.{room_editable}
use Rattle.std.specs.declared.option.Option.TheVariants.{Some}
use Rattle.std.specs.Prelude.{Ok}

module _ (n : ℕ) (t : Lent) (v : ℕ) where
  pub tabled_editable : (Ok tt) ≡ table_verdict n t v → Editable t v
  tabled_editable h = let z = tabled n t v h in room_editable z.room z.below

  -- x stands at place i of a ring that can be written
  pub found : (Ok tt) ≡ call_verdict n t v → (x i : ℕ) → Some i ≡ place_of x (ring_of t v) → Editable t v × ((i < valence_at t v) × (valence_at t v ≤ 32))
  found h x i q =
      let c = called n t v h in
      let p = (placed x (ring_of t v) i q).2 in
      let l = row_length t v c.row in
      (tabled_editable c.tables, (omega arith, c.most))
