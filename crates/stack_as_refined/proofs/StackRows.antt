-- Rows of a stack: a row of a part is a row of the stack, and what is wanted of vertex x of level k. Assumes nothing.
use Prim.Native.Nat.{ℕ, zero, suc, ◌+◌, ◌*◌, ◌≤◌, ◌<◌}
use mathlib.Core.Path.{◌≡◌, ap₂}
use mathlib.Core.Bool.{false}
use mathlib.Core.List.{List}
use native.Mathlib.Omega.{arith}
use lib.IntN.{ℤ}
use lib.ListN.{drop}
use lib.Seq.{get_or-drop}
use borrow.Author.Tests.{le-leb, lt-leb}
use Rattle.mesh.proofs.First.{Clear}
use Rattle.steps.specs.Sizes.{Sizes, sizes_of}
use Rattle.loop_step.specs.Refine.{level}
use Rattle.rings.specs.Table.{Lent, lent, rows}
use Rattle.rings.specs.Check.{beyond_at}
use Rattle.stack_judge.specs.Stack.{level_count, level_start, stack_count}
use Rattle.stack_judge.proofs.Sizes.{start_none, start_suc}
use Rattle.stack_judge.proofs.StackVertices.{starts_climb, by_levels, level_of_lem, number_in_lem}
use Rattle.stack_refine.proofs.StackLevels.{ring_part, point_part}
use Rattle.stack_strange.specs.Expected.{other_than, wanted, strange}

beyond_part : (ps : List ℤ) (b x : ℕ) → beyond_at (drop (b * 3) ps) x ≡ beyond_at ps (b + x)
unfolding beyond_at
beyond_part ps b x = rw (point_part ps b 0 x, point_part ps b 1 x, point_part ps b 2 x)

-- a row of a part that begins at row b
pub other_part : (want : List ℕ) (t : Lent) (ps : List ℤ) (b x : ℕ) → other_than want (lent (drop b t.valences) (drop (b * 32) t.rings)) (drop (b * 3) ps) x ≡ other_than want t ps (b + x)
unfolding other_than
other_part want t ps b x = rw (get_or-drop b t.valences x 0, ring_part t b x, beyond_part ps b x)

-- level 0 is not held against anything
pub control_clear : (n levels : ℕ) (t : Lent) (ps : List ℤ) → Clear (strange n levels t ps) n
unfolding strange
control_clear n levels t ps = record { below = λ j l. rw (lt-leb n j l) }

-- vertex x of level k + 1
module _ (n levels : ℕ) (t : Lent) (ps : List ℤ) (k x : ℕ) (l : k < levels) (h : x < level_count (sizes_of n (rows n t)) (suc k)) where
  abbrev s : Sizes
  s = sizes_of n (rows n t)

  above : n ≤ level_start s (suc k) + x
  above = let c = starts_climb s 1 (suc k) (omega arith) in omega (arith, start_suc s 0, start_none s)

  wanted_is : wanted n levels t ps (level_start s (suc k) + x) ≡ (level (rows n t) (suc k)).ring x
  unfolding wanted
  wanted_is = ap₂ (λ (i y : ℕ). (level (rows n t) i).ring y) (level_of_lem s levels (suc k) x l h) (number_in_lem s levels (suc k) x l h)

  pub strange_is : strange n levels t ps (level_start s (suc k) + x) ≡ other_than ((level (rows n t) (suc k)).ring x) t ps (level_start s (suc k) + x)
  unfolding strange
  strange_is = rw (le-leb n (level_start s (suc k) + x) above, wanted_is)

-- a stack whose levels above 0 have no strange vertex has none
pub clear_stack : (n levels : ℕ) (t : Lent) (ps : List ℤ)
    → ((k x : ℕ) → k < levels → x < level_count (sizes_of n (rows n t)) (suc k) → strange n levels t ps (level_start (sizes_of n (rows n t)) (suc k) + x) ≡ false)
    → Clear (strange n levels t ps) (stack_count (sizes_of n (rows n t)) levels)
clear_stack n levels t ps all = record { below = by_levels (sizes_of n (rows n t)) levels (λ j. strange n levels t ps j ≡ false) each }
  where
    each : (k x : ℕ) → k ≤ levels → x < level_count (sizes_of n (rows n t)) k → strange n levels t ps (level_start (sizes_of n (rows n t)) k + x) ≡ false
    each zero x l h = (control_clear n levels t ps).below _ (omega (arith, start_none (sizes_of n (rows n t))))
    each (suc k) x l h = all k x l h
