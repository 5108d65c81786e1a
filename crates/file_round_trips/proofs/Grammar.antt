-- The layout is accepted exactly where the bytes are a file of the grammar: `good_is_file` and `file_is_good`. Assumes nothing.
use Prim.Native.Nat.{ℕ, ◌<◌}
use mathlib.Core.Path.{◌≡◌, sym}
use mathlib.Core.List.{List}
use lib.IntN.{ℤ}
use lib.ListN.{get_or}
use Rattle.file_format.specs.Layout.{file_count, file_ring, file_point, file_verdict}
use Rattle.file_writing.specs.Write.{file_of}
use Rattle.file_format.proofs.Judging.{good}
use Rattle.file_round_trips.proofs.Written.{Storable, written_good}
use Rattle.file_round_trips.proofs.WriteBack.{same_bytes}
use Rattle.std.specs.Prelude.{Ok}

pub good_is_file : (s : List ℕ) → ((j : ℕ) → get_or s j 0 < 256) → file_verdict s ≡ (Ok tt) → s ≡ file_of (file_count s) (file_ring s) (file_point s)
good_is_file s byte e = sym (same_bytes s byte (good s e))

pub file_is_good : (n : ℕ) (ring : ℕ → List ℕ) (point : ℕ → ℕ → ℤ) → Storable n ring point → file_verdict (file_of n ring point) ≡ (Ok tt)
file_is_good = written_good
