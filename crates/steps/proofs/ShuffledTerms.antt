-- Terms in another order: their sum, and whether a source is touched, are the same.
-- Assumes nothing.
use mathlib.Core.Path.{◌≡◌, refl, sym, ap, ap₂, ◌∙◌}
use mathlib.Core.Bool.{Bool, ◌||◌}
use mathlib.Core.List.{List, Permᴰ}
use Prim.Native.Nat.{ℕ}
use lib.IntN.{ℤ, ◌+ℤ◌, ◌*ℤ◌, +ℤ_assoc, +ℤ_comm}
use Rattle.mesh.proofs.First.{or_swap}
use Rattle.steps.specs.Mask.{Term, weighted, any_source}

-- the first two of a sum exchanged
add_swap : (a b c : ℤ) → a +ℤ (b +ℤ c) ≡ b +ℤ (a +ℤ c)
add_swap a b c = sym (+ℤ_assoc a b c) ∙ ap (λ z. z +ℤ c) (+ℤ_comm a b) ∙ +ℤ_assoc b a c

module _ (at : ℕ → ℤ) where
  abbrev part : Term → ℤ
  part t = t.weight *ℤ at t.source

  pub weighted_shuffled : {ts us : List Term} → Permᴰ ts us → weighted ts at ≡ weighted us at
  weighted_shuffled Permᴰ.nil = refl
  weighted_shuffled (Permᴰ.cons e p) = ap₂ (λ t s. part t +ℤ s) e (weighted_shuffled p)
  weighted_shuffled (Permᴰ.swap {a = a} {b = b} {l = l} d e) =
      add_swap (part a) (part b) (weighted l at) ∙ ap₂ (λ t u. part t +ℤ (part u +ℤ weighted l at)) e d
  weighted_shuffled (Permᴰ.trans p q) = weighted_shuffled p ∙ weighted_shuffled q

module _ (hit : ℕ → Bool) where
  pub any_shuffled : {ts us : List Term} → Permᴰ ts us → any_source hit ts ≡ any_source hit us
  any_shuffled Permᴰ.nil = refl
  any_shuffled (Permᴰ.cons e p) = ap₂ (λ t b. hit t.source || b) e (any_shuffled p)
  any_shuffled (Permᴰ.swap {a = a} {b = b} {l = l} d e) =
      or_swap (hit a.source) (hit b.source) (any_source hit l)
      ∙ ap₂ (λ t u. hit t.source || (hit u.source || any_source hit l)) e d
  any_shuffled (Permᴰ.trans p q) = any_shuffled p ∙ any_shuffled q
