-- Parts of a file's bytes, and how they join. Assumes nothing.
use Prim.Native.Nat.{ℕ, ◌+◌, ◌≤◌, ◌<◌}
use mathlib.Core.Path.{◌≡◌, refl, sym, ap, subst, ◌∙◌}
use mathlib.Core.List.{List, [], ◌++◌}
use lib.ListN.{length, get_or, take, drop}
use lib.Seq.{take-add, drop-drop}
use Rattle.file_format.specs.Bytes.{bytes_of, number_at}
use Rattle.file_round_trips.proofs.Inverse.{bytes_at}

-- x is what stands in s from a place on, k bytes long
pub record Part (s : List ℕ) (at k : ℕ) (x : List ℕ) : Type 0 where
  pub is : x ≡ take k (drop at s)

pub part_none : {s : List ℕ} {at : ℕ} → Part s at 0 []
part_none = record { is = refl }

pub join : {s x y : List ℕ} {at p : ℕ} (j m : ℕ) → Part s at j x → Part s p m y → p ≡ at + j → Part s at (j + m) (x ++ y)
join {s} {x} {y} {at} {p} j m r q e =
    record { is = rw (r.is, q.is, e) (sym (take-add j m (drop at s) ∙ ap (λ (l : List ℕ). take j (drop at s) ++ take m l) (drop-drop j at s))) }

-- of equal length
pub part_long : {s x : List ℕ} {at k m : ℕ} → k ≡ m → Part s at k x → Part s at m x
part_long {s} {x} {at} e p = subst (λ (j : ℕ). Part s at j x) e p

-- a number that is known by another name
pub part_number : (s : List ℕ) → ((j : ℕ) → get_or s j 0 < 256) → (k at n : ℕ) → at + k ≤ length s → n ≡ number_at s at k → Part s at k (bytes_of k n)
part_number s byte k at n h e = record { is = ap (bytes_of k) e ∙ bytes_at s byte k at h }
