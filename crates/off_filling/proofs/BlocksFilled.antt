-- Blocks of vertices that are written one after the other. Assumes nothing.
use mathlib.Core.Path.{sym, subst}
use mathlib.Core.List.{List}
use Prim.Native.Nat.{ℕ, ◌-◌, ◌≤◌}
use native.Mathlib.Nat.{zero-add}
use native.Mathlib.Omega.{arith}
use Rattle.rings.specs.Table.{Lent}
use Rattle.off_gather.specs.Gathering.{SameRoom}
use Rattle.off_gather.proofs.Gathering.{same_none, same_more}
use Rattle.off_blocks.specs.Blocks.{least_width, Width}
use Rattle.off_filling.specs.Filling.{Fillable, Filled, Stepped}
use Rattle.off_filling.proofs.RowsFilled.{filled_none, filled_then, filled_all}

-- the vertices below `at` are written
pub record Passed (s : List ℕ) (count at width : ℕ) (c₀ f₀ z₀ : List ℕ) (t₀ : Lent) (c f z : List ℕ) (t : Lent) : Type 0 where
  pub within : at ≤ count
  pub wide : Width width
  pub same : SameRoom c₀ f₀ z₀ c f z
  pub filled : Filled s 0 at t₀ t

pub passed_none : {s : List ℕ} {count : ℕ} {c f z : List ℕ} {t : Lent} → Passed s count 0 least_width c f z t c f z t
passed_none {s} = record {
  within = omega arith;
  wide = record { low = omega arith; high = omega arith };
  same = same_none;
  filled = filled_none s (omega arith) (omega arith);
}

module _ {s : List ℕ} {count at width : ℕ} {c₀ f₀ z₀ : List ℕ} {t₀ : Lent} {c f z : List ℕ} {t : Lent} (p : Passed s count at width c₀ f₀ z₀ t₀ c f z t) where
  pub passed_more : {at' width' : ℕ} {c' f' z' : List ℕ} {t' : Lent} → Fillable s count t₀ → Stepped s count at width at' width' t t'
      → SameRoom c f z c' f' z'
      → Passed s count at' width' c₀ f₀ z₀ t₀ c' f' z' t'
  passed_more {at'} {width'} {c'} {f'} {z'} {t'} k q same = record {
    within = q.within;
    wide = q.wide;
    same = same_more p.same same;
    filled = filled_all s (omega (arith, q.further)) (omega (arith, q.further))
        (filled_then s k (omega (arith, p.within)) p.filled (subst (λ v. Filled s v (at' - at) t t') (sym (zero-add at)) q.filled));
  }
