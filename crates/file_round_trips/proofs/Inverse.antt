-- A number's bytes give the number, and the bytes of a number that was read are those that were read. Assumes nothing.
use Prim.Native.Nat.{ℕ, zero, suc, ◌+◌, ◌-◌, ◌*◌, ◌≤◌, ◌<◌}
use mathlib.Core.Path.{◌≡◌, refl, sym, ap, ap₂, ◌∙◌}
use mathlib.Core.List.{List, ◌∷◌}
use native.Mathlib.Numerals.{add-one}
use native.Mathlib.Omega.{arith}
use lib.Arith.{digits_div, digits_mod}
use lib.ListN.{length, get_or, take, drop}
use lib.Seq.{drop-cons, drop-drop}
use Rattle.mesh.proofs.Lists.{lt_split}
use mathlib.Core.Logic.{⊎_elim}
use Rattle.file_format.specs.Bytes.{bytes_of, number_of, number_at, bits_of, coordinate_of}
use Rattle.file_format.proofs.Numbers.{number_cons, number_none}
use Rattle.file_format.proofs.Signed.{low, high}

pub number_bytes_two : (n : ℕ) → n < 65536 → number_of (bytes_of 2 n) ≡ n
number_bytes_two n h = omega arith

pub number_bytes_four : (n : ℕ) → n < 4294967296 → number_of (bytes_of 4 n) ≡ n
number_bytes_four n h = omega arith

-- what stands from a place on tells each number behind that place
pub number_from : (s t : List ℕ) (at j k : ℕ) → drop at s ≡ t → number_at s (at + j) k ≡ number_of (take k (drop j t))
unfolding number_at
number_from s t at j k e = ap (λ (x : List ℕ). number_of (take k x)) (sym (drop-drop j at s) ∙ ap (drop j) e)

pub number_here : (s t : List ℕ) (at k : ℕ) → drop at s ≡ t → number_at s at k ≡ number_of (take k t)
unfolding number_at
number_here s t at k e = ap (λ (x : List ℕ). number_of (take k x)) e

-- ---- bytes that were read

module _ (s : List ℕ) (byte : (j : ℕ) → get_or s j 0 < 256) where
  pub bytes_at : (k at : ℕ) → at + k ≤ length s → bytes_of k (number_at s at k) ≡ take k (drop at s)
  bytes_at zero at h = refl
  bytes_at (suc k) at h =
      let b = get_or s at 0 in
      let m = number_at s (at + 1) k in
      let e : number_at s at (suc k) ≡ m * 256 + b = let c = number_cons s at k (omega arith) in omega arith in
      let q : drop at s ≡ b ∷ drop (at + 1) s = rw add-one (drop-cons s at 0 (omega arith)) in
      ap (bytes_of (suc k)) e
      ∙ ap₂ (λ (x : ℕ) (y : ℕ). x ∷ bytes_of k y) (digits_mod m (byte at)) (digits_div m (byte at))
      ∙ ap (λ (l : List ℕ). b ∷ l) (bytes_at k (at + 1) (omega arith))
      ∙ sym (ap (take (suc k)) q)

  pub four_lt : (at : ℕ) → at + 4 ≤ length s → number_at s at 4 < 4294967296
  four_lt at h =
      let a = number_cons s at 3 (omega arith) in
      let b = number_cons s (at + 1) 2 (omega arith) in
      let c = number_cons s (at + 1 + 1) 1 (omega arith) in
      let d = number_cons s (at + 1 + 1 + 1) 0 (omega arith) in
      omega (arith, number_none s (at + 1 + 1 + 1 + 1), byte at, byte (at + 1), byte (at + 1 + 1), byte (at + 1 + 1 + 1))

pub bits_coordinate : (n : ℕ) → n < 4294967296 → bits_of (coordinate_of n) ≡ n
bits_coordinate n h =
    ⊎_elim
    (λ l. ap bits_of (sym (low n l.1)))
    (λ l. let e : 4294967295 - (4294967295 - n) ≡ n = omega arith in ap bits_of (sym (high n l.1)) ∙ e)
    (lt_split n 2147483648)
