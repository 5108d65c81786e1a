-- A climb through as many numbers as there are; a list of six. Assumes nothing.
use Prim.Native.Nat.{ℕ, zero, suc, ◌+◌, ◌-◌, ◌≤◌, ◌<◌}
use mathlib.Core.Path.{◌≡◌, refl}
use mathlib.Core.List.{List, [], ◌∷◌}
use native.Mathlib.Omega.{arith}
use lib.ListN.{length, get_or}

-- a climb through as many numbers as there are is each number itself
module _ (g : ℕ → ℕ) (e : ℕ) (small : (k : ℕ) → k < e → g k < e) (climbs : (k : ℕ) → k + 1 < e → g k < g (k + 1)) where
  climb_low : (k : ℕ) → k < e → k ≤ g k
  climb_low zero l = omega arith
  climb_low (suc k) l =
      let m : suc k ≡ k + 1 = omega arith in
      let a = climb_low k (omega arith) in
      let b : g k < g (suc k) = rw m (climbs k (omega arith)) in
      omega arith

  climb_high : (d k : ℕ) → k + d < e → g k + d < e
  climb_high zero k l = let a = small k (omega arith) in omega arith
  climb_high (suc d) k l = let a = climb_high d (k + 1) (omega arith) in let b = climbs k (omega arith) in omega arith

  pub climb_is : (k : ℕ) → k < e → g k ≡ k
  climb_is k l = let a = climb_low k l in let b = climb_high (e - (k + 1)) k (omega arith) in omega arith

-- a list of six
pub six_list : (l : List ℕ) → length l ≡ 6 → l ≡ get_or l 0 0 ∷ get_or l 1 0 ∷ get_or l 2 0 ∷ get_or l 3 0 ∷ get_or l 4 0 ∷ get_or l 5 0 ∷ []
six_list [] h = absurd (omega arith)
six_list (a ∷ []) h = absurd (omega arith)
six_list (a ∷ b ∷ []) h = absurd (omega arith)
six_list (a ∷ b ∷ c ∷ []) h = absurd (omega arith)
six_list (a ∷ b ∷ c ∷ d ∷ []) h = absurd (omega arith)
six_list (a ∷ b ∷ c ∷ d ∷ e ∷ []) h = absurd (omega arith)
six_list (a ∷ b ∷ c ∷ d ∷ e ∷ f ∷ []) h = refl
six_list (a ∷ b ∷ c ∷ d ∷ e ∷ f ∷ g ∷ l) h = absurd (omega arith)
