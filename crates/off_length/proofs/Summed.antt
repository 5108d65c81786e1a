-- Chains that sum up what each number below n gives, and how much that is at most. Assumes nothing.
use mathlib.Core.Path.{◌≡◌, refl, sym, ap, ◌∙◌}
use mathlib.Core.List.{List, map}
use Prim.Native.Nat.{ℕ, zero, suc, ◌+◌, ◌*◌, ◌≤◌, ◌<◌}
use native.Mathlib.Nat.{mul-le-mul}
use native.Mathlib.Numerals.{add-one}
use native.Mathlib.Omega.{arith}
use lib.IntN.{ℤ}
use lib.ListN.{length, get_or}
use denote.Param.Members.{Mut}
use Rattle.std.specs.Bool.{⊤}
use Rattle.std.specs.Fn.{Called}
use Rattle.std.specs.Iterator.{Drains}
use Rattle.std.specs.Iterator.Runs.{EachRunFrom}
use Rattle.std.specs.Iterator.Adapters.{map_source, map_callee}
use Rattle.std.specs.List.{fold, range_with_len, sum as total}
use Rattle.std.specs.declared.iter.Map.{Map}
use Rattle.std.specs.declared.ops.Range.{Range}
use Rattle.std.proofs.iter.Yields.{nat_range_steps}
use Rattle.std.proofs.lemmas.Iterator.{YieldsList, YieldsList-from_range, YieldsList-from_map, maps}
use Rattle.std.proofs.lemmas.Iterator.Consumers.{sum_from_yields_List, fits_from_yields_list}
use Rattle.std.proofs.lemmas.List.FromFn.{sum_by-map-range_with_len_more}
use Rattle.mesh.specs.Limits.{valence_bound}
use Rattle.mesh.specs.Search.{sum}
use Rattle.rings.specs.Table.{coordinate_at}
use Rattle.numerals.specs.Numerals.{digits}
use Rattle.numerals.proofs.Digits.{digits_most, signed_fits}
use Rattle.off_length.specs.Length.{point_length}

range_sum : (f : ℕ → ℕ) (n : ℕ) → total (map f (range_with_len 0 n)) ≡ sum f n
range_sum f zero = refl
range_sum f (suc n) =
    ap (λ m. total (map f (range_with_len 0 m))) (sym (add-one n))
    ∙ sum_by-map-range_with_len_more (λ x. x) f 0 n n (omega arith)
    ∙ ap (λ m. m + f n) (range_sum f n)

module _ {F : Type 0} {g : Mut F (ℕ × Unit {0}) ℕ} {k : F} (f : ℕ → ℕ) (n : ℕ) (s : Map (Range ℕ) F) (source : map_source s ≡ record { start = 0; end = n })
    (callee : map_callee s ≡ k) (says : (x r : ℕ) (q : F) → Called g k (x, tt) r q → (q ≡ k) × (r ≡ f x)) where
  yields : YieldsList (maps nat_range_steps g) (λ r. r) s (map f (range_with_len 0 n))
  yields = YieldsList-from_map g f (YieldsList-from_range 0 n n source (omega arith)) callee says

  pub summed : (r : ℕ) → (xs : List ℕ) × (⊤ → Drains (maps nat_range_steps g) s xs) × (r ≡ fold (λ a x. a + x) 0 xs) → r ≡ sum f n
  summed r ran = sum_from_yields_List s r ran yields ∙ range_sum f n

  pub sum_fits : (top : ℕ) → sum f n < top → EachRunFrom (maps nat_range_steps g) s (λ p. fold (λ a x. a + x) 0 p.items < top)
  sum_fits top h = fits_from_yields_list s top yields (omega (arith, range_sum f n))

-- ---- what one vertex gives at most

pub point_most : (ps : List ℤ) (v : ℕ) → point_length ps v ≤ 66
unfolding point_length
point_most ps v =
    omega (
      arith,
      signed_fits 0 22 (coordinate_at ps 0 v) 0 (omega arith),
      signed_fits 0 22 (coordinate_at ps 1 v) 0 (omega arith),
      signed_fits 0 22 (coordinate_at ps 2 v) 0 (omega arith),
    )

-- its digits, as often as it has neighbours
abbrev pub corner_digits : List ℕ → ℕ → ℕ
corner_digits vs v = get_or vs v 0 * length (digits 20 v)

pub corner_most : (vs : List ℕ) → ((v : ℕ) → get_or vs v 0 < valence_bound) → (v : ℕ) → corner_digits vs v ≤ 1310720
corner_most vs h v =
    omega (arith, mul-le-mul {n₁ = get_or vs v 0} {m₁ = length (digits 20 v)} {n₂ = valence_bound} {m₂ = 20} (omega (arith, h v)) (digits_most 20 v))
