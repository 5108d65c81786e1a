-- The next level marked from below: each marked vertex of the level below marks its dependents, and after all of them the vertices of the next level are marked
-- where they are touched. Assumes nothing.
use Prim.Native.Nat.{ℕ, ◌+◌, ◌-◌, ◌≤◌, ◌<◌}
use mathlib.Core.Path.{◌≡◌, refl, sym, ap, subst, ◌∙◌, fun_ext}
use mathlib.Core.Bool.{Bool, true, false, ◌||◌, ◌&&◌}
use mathlib.Core.Logic.{⊎_elim}
use native.Mathlib.Omega.{arith}
use Rattle.mesh.specs.Search.{some}
use Rattle.mesh.specs.Ring.{has}
use Rattle.mesh.specs.Mesh.{Mesh, edges}
use Rattle.mesh.proofs.First.{none_some, some_more, some_skip}
use Rattle.mesh.proofs.Lists.{lt_split}
use Rattle.loop_step.specs.Dependents.{dependents}
use Rattle.loop_step.proofs.DependentsAreTouched.{dependents_below}
use Rattle.rings.specs.Table.{Lent, rows}
use Rattle.move_map.specs.Map.{NoneFrom}
use Rattle.loop_points.specs.Level.{Ready}
use Rattle.move_touched.specs.NextLevel.{from, joined, NextUnmarked, marked_by, marks_up_to}
use Rattle.move_touched.proofs.Touched.{touched_dependent}
use Rattle.move_touched.proofs.Joined.{joined_at, joined_before, joined_behind}
use Rattle.move_touched.proofs.Renewed.{marks_before, marks_at_lem, marks_behind}

-- ---- one vertex has its say, as the code does it

module _ (M : Mesh) (base : ℕ) (set : ℕ → Bool) (v : ℕ) (b : Bool) (e : b ≡ set (base + v)) where
  pub marked_yes : b ≡ true → {now : ℕ → Bool} → now ≡ joined set (base + M.count) (dependents M v) → now ≡ marked_by M base set v
  unfolding marked_by
  marked_yes w h = rw (← e, w) h

  pub marked_no : b ≡ false → set ≡ marked_by M base set v
  unfolding marked_by
  marked_no w = rw (← e, w)

-- ---- the vertices of the level below, one after the other

-- x is a dependent of a vertex of M that is in the set
unfoldable pub marks_at : Mesh → (ℕ → Bool) → ℕ → ℕ → Bool
marks_at M below x v = below v && has x (dependents M v)

-- those before y of the n vertices of M had their say
pub record Judging (n : ℕ) (M : Mesh) (base y : ℕ) (before after : ℕ → Bool) : Type 0 where
  pub at : (x : ℕ) → x < n + edges M → after (base + n + x) ≡ some (marks_at M (from base before) x) y
  pub front : (j : ℕ) → j < base + n → after j ≡ before j
  pub behind : (j : ℕ) → base + n + (n + edges M) ≤ j → after j ≡ before j

module _ {n : ℕ} {t : Lent} (r : Ready n t) where
  abbrev M : Mesh
  M = rows n t

  module _ {base : ℕ} {before : ℕ → Bool} where
    pub judging_none : NextUnmarked M base before → Judging n M base 0 before before
    unfolding rows
    judging_none u = record {
      at = λ x l. u.unmarked x l ∙ sym (none_some (marks_at M (from base before) x) 0 (λ k h. absurd (omega arith)));
      front = λ j l. refl;
      behind = λ j l. refl;
    }

    module _ {y : ℕ} {after : ℕ → Bool} (d : Judging n M base y before after) where
      -- vertices that are not marked have no say
      pub judging_skip : (k : ℕ) → y + k ≤ n → NoneFrom after (base + y) k → Judging n M base (y + k) before after
      unfolding marks_at from
      judging_skip k h z = record {
        at = λ x l. d.at x l ∙ sym (some_skip (marks_at M (from base before) x) y k (λ v a b. ap (λ (c : Bool). c && has x (dependents M v)) (unmarked v a b)));
        front = d.front;
        behind = d.behind;
      }
        where
          unmarked : (v : ℕ) → y ≤ v → v < y + k → before (base + v) ≡ false
          unmarked v a b =
              let e : base + y + (v - y) ≡ base + v = omega arith in
              sym (d.front (base + v) (omega arith)) ∙ ap after (sym e) ∙ z.none (v - y) (omega arith)

      module _ (h : y < n) {now : ℕ → Bool} (b : now ≡ marked_by M base after y) where
        idle : after (base + y) ≡ false → Judging n M base (y + 1) before now
        unfolding marked_by
        idle z =
            let e : now ≡ after = b ∙ rw z in
            rw e (judging_skip 1 (omega arith) (record { none = λ i l. let q : base + y + i ≡ base + y = omega arith in ap after q ∙ z }))

        busy : after (base + y) ≡ true → Judging n M base (y + 1) before now
        unfolding marked_by marks_at from rows
        busy z =
            let e : now ≡ joined after (base + n) (dependents M y) = b ∙ rw z in
            let m : before (base + y) ≡ true = sym (d.front (base + y) (omega arith)) ∙ z in
            rw e (record {
              at = λ x l.
                  joined_at after (base + n) (dependents M y) x ∙ ap (λ (c : Bool). c || has x (dependents M y)) (d.at x l)
                  ∙ sym (some_more (marks_at M (from base before) x) y
                  ∙ ap (λ (c : Bool). some (marks_at M (from base before) x) y || (c && has x (dependents M y))) m);
              front = λ j l. joined_before after (base + n) (dependents M y) j l ∙ d.front j l;
              behind = λ j l. joined_behind after (base + n) (dependents M y) (n + edges M) (λ x k. dependents_below M r.sound y x h k) j l ∙ d.behind j l;
            })

        pub judging_more : Judging n M base (y + 1) before now
        judging_more = go (after (base + y)) refl
          where
            go : (c : Bool) → after (base + y) ≡ c → Judging n M base (y + 1) before now
            go true z = busy z
            go false z = idle z

      -- all had their say
      pub judging_end : y ≡ n → after ≡ marks_up_to M base before (n + edges M)
      unfolding rows marks_at
      judging_end q = fun_ext (λ j.
          ⊎_elim
          (λ s. d.front j s.1 ∙ sym (marks_before M base before (n + edges M) j s.1))
          (λ s.
          let x : ℕ = j - (base + n) in
          let k = s.1 in
          let e : base + n + x ≡ j = omega arith in
          ⊎_elim
          (λ l. subst (λ (i : ℕ). after i ≡ marks_up_to M base before (n + edges M) i) e (here x l.1))
          (λ l. let z = l.1 in d.behind j (omega arith) ∙ sym (marks_behind M base before (n + edges M) j (omega arith)))
          (lt_split x (n + edges M)))
          (lt_split j (base + n)))
        where
          here : (x : ℕ) → x < n + edges M → after (base + n + x) ≡ marks_up_to M base before (n + edges M) (base + n + x)
          here x l =
              d.at x l ∙ ap (some (marks_at M (from base before) x)) q ∙ sym (touched_dependent M (from base before) r.sound x l)
              ∙ sym (marks_at_lem M base before (n + edges M) x l)
