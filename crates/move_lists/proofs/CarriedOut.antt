-- A plan carried out on a judged stack: what the refresh asks for holds, and what the map, the count and the positions then are. Assumes nothing.
use Prim.Native.Nat.{ℕ, zero, suc, ◌+◌, ◌*◌, ◌≤◌, ◌<◌}
use mathlib.Core.Path.{◌≡◌, refl, sym, ap, subst, ◌∙◌}
use mathlib.Core.Bool.{Bool, true, false, ◌||◌}
use mathlib.Core.List.{List, [], ◌∷◌}
use mathlib.Core.Logic.{⊎_elim}
use native.Mathlib.Omega.{arith}
use lib.Dec.{eqb}
use lib.IntN.{ℤ}
use lib.ListN.{length}
use lib.Seq.{get_or-drop}
use borrow.Author.Tests.{lt-ltb, le-ltb, ne_eqb}
use Rattle.mesh.specs.Mesh.{Mesh, edges}
use Rattle.mesh.proofs.First.{or_both}
use Rattle.mesh.proofs.Lists.{lt_split}
use Rattle.steps.specs.Sizes.{sizes_of}
use Rattle.steps.proofs.TouchedPoints.{count_same}
use Rattle.loop_step.specs.Refine.{level}
use Rattle.loop_step.specs.Loop.{loop}
use Rattle.loop_step.proofs.Levels.{loop_grounded}
use Rattle.units.specs.Coordinate.{InRange}
use Rattle.units.specs.declared.Point.{Point}
use Rattle.rings.specs.Table.{Lent, valence_at, rows, coordinate_at, point_at}
use Rattle.stack_judge.specs.Stack.{level_count, level_start, stack_count}
use Rattle.stack_judge.specs.Accepts.{AcceptsStack}
use Rattle.stack_judge.proofs.Sizes.{level_count_lem}
use Rattle.move_map.specs.Map.{marked, word_count, members, emptied, Words}
use Rattle.move_map.proofs.Sets.{emptied_in, emptied_out, map_is}
use Rattle.stack_refine.proofs.StackLevels.{point_part}
use Rattle.stack_strange.specs.Expected.{whole}
use Rattle.stack_as_refined.proofs.StackAsRefined.{AsRefined, stack_as_refined}
use Rattle.move_refresh.specs.Stack.{StackReady, MapReady, TouchedMarked, refreshed_positions}
use Rattle.move_refresh.proofs.Called.{accepted_moved, positions_by, mark_by}
use Rattle.move_refresh.proofs.TouchedMarks.{vertex_of_lem, marks_counted}
use Rattle.move_plan.specs.Moves.{placed}
use Rattle.move_plan.specs.Plan.{Near, Fair, planned, named_in, with_named, laid}
use Rattle.move_plan.specs.declared.Entry.{Entry}
use Rattle.move_plan.specs.declared.Plan.{Plan}
use Rattle.move_plan.proofs.Laid.{Each, Low, NearEntry, each_take, length_placed, point_other, length_laid, latest_laid, latest_near}
use Rattle.move_lists.specs.Apply.{touched_at, touched_total, touched_map}
use Rattle.move_lists.proofs.AfterList.{control_first}
use Rattle.move_lists.proofs.Judging.{Judged}

-- ---- entries of control vertices

-- the entries of a fair plan
pub fair_low : (s : Plan) → Fair s → Each (Low s.count) (planned s)
unfolding planned
fair_low s f = each_take (Low s.count) s.entries s.taken (let l = f.size in let k = f.few in omega arith) (λ k l d. f.below k l d)

pub fair_near : (s : Plan) → Fair s → Each NearEntry (planned s)
unfolding planned
fair_near s f = each_take NearEntry s.entries s.taken (let l = f.size in let k = f.few in omega arith) (λ k l d. f.near k l d)

-- no other vertex is named
named_low : (n : ℕ) (es : List Entry) → Each (Low n) es → (v : ℕ) → n ≤ v → named_in es v ≡ false
named_low n [] low v l = refl
named_low n (e ∷ es) low v l = or_both (eqb e.vertex v) (named_in es v) (ne_eqb e.vertex v (λ q. let k = low.0 in omega arith)) (named_low n es low.1 v l)

-- and no other point is set
point_kept : (n : ℕ) (es : List Entry) (ps : List ℤ) → n * 3 ≤ length ps → Each (Low n) es → (v : ℕ) → n ≤ v → point_at (laid ps es) v ≡ point_at ps v
point_kept n [] ps room low v l = refl
point_kept n (e ∷ es) ps room low v l =
    let k = low.0 in
    let fits : e.vertex * 3 + 3 ≤ length ps = omega arith in
    let long = length_placed ps e.vertex e.point fits in
    point_kept n es (placed ps e.vertex e.point) (omega arith) low.1 v l ∙ point_other ps e.vertex e.point fits v (λ q. omega arith)

-- a point's coordinate by its axis
on_axis : ℕ → Point → ℤ
on_axis zero p = p.x
on_axis (suc zero) p = p.y
on_axis (suc (suc k)) p = p.z

on_axis_lem : (ps : List ℤ) (axis v : ℕ) → axis < 3 → coordinate_at ps axis v ≡ on_axis axis (point_at ps v)
unfolding point_at on_axis
on_axis_lem ps zero v h = refl
on_axis_lem ps (suc zero) v h = refl
on_axis_lem ps (suc (suc zero)) v h = refl
on_axis_lem ps (suc (suc (suc k))) v h = absurd (omega arith)

near_axis : (axis : ℕ) (p : Point) → Near p → InRange (on_axis axis p)
unfolding on_axis
near_axis zero p n = n.x
near_axis (suc zero) p n = n.y
near_axis (suc (suc k)) p n = n.z

module _ {n levels : ℕ} {t : Lent} {ps : List ℤ} {words moves : ℕ} (j : Judged n levels t ps words moves) (es : List Entry) (low : Each (Low n) es) (near : Each NearEntry es) where
  abbrev M : Mesh
  M = rows n t

  abbrev W : ℕ
  W = whole n levels t ps

  a : AcceptsStack n levels t ps
  a = j.stack

  pub laid_long : length (laid ps es) ≡ length ps
  laid_long = length_laid n es ps a.control.points low

  control_near : (v : ℕ) → v < n → Near (point_at ps v)
  unfolding point_at
  control_near v h = record { x = a.control.near v h 0 (omega arith); y = a.control.near v h 1 (omega arith); z = a.control.near v h 2 (omega arith) }

  laid_near : (v : ℕ) → v < n → (axis : ℕ) → axis < 3 → InRange (coordinate_at (laid ps es) axis v)
  laid_near v h axis b =
      let e = latest_laid n es ps a.control.points low v in
      subst (λ (z : ℤ). InRange z) (sym (on_axis_lem (laid ps es) axis v b ∙ ap (on_axis axis) (sym e))) (near_axis axis _ (latest_near es near v (point_at ps v) (control_near v h)))

  laid_same : (axis : ℕ) → axis < 3 → (v : ℕ) → n ≤ v → coordinate_at (laid ps es) axis v ≡ coordinate_at ps axis v
  laid_same axis b v l = on_axis_lem (laid ps es) axis v b ∙ ap (on_axis axis) (point_kept n es ps a.control.points low v l) ∙ sym (on_axis_lem ps axis v b)

  as_refined : (k : ℕ) → k ≤ levels → AsRefined n t ps k
  as_refined = stack_as_refined n levels t ps a j.true'

  count_is : (k : ℕ) → (level M k).count ≡ level_count (sizes_of n M) k
  unfolding rows
  count_is k = level_count_lem M a.control.sound k

  stack_near : (i : ℕ) → i < stack_count (sizes_of n M) levels → (axis : ℕ) → axis < 3 → InRange (coordinate_at ps axis i)
  stack_near i h axis b =
      let v = vertex_of_lem a i h in
      subst (λ (x : ℕ). InRange (coordinate_at ps axis x)) v.1.1
      (subst (λ (z : ℤ). InRange z) (point_part ps _ axis _) ((as_refined _ v.0).near.near _ (rw (count_is _) at v.1.0) axis b))

  stack_most : (i : ℕ) → i < stack_count (sizes_of n M) levels → valence_at t i ≤ 32
  stack_most i h =
      let v = vertex_of_lem a i h in
      subst (λ (x : ℕ). valence_at t x ≤ 32) v.1.1 (subst (λ (x : ℕ). x ≤ 32) (get_or-drop _ t.valences _ 0) ((as_refined _ v.0).most _ (rw (count_is _) at v.1.0)))

  all_near : (i : ℕ) → i < stack_count (sizes_of n M) levels → (axis : ℕ) → axis < 3 → InRange (coordinate_at (laid ps es) axis i)
  all_near i h axis b =
      ⊎_elim
      (λ l. laid_near i l.1 axis b)
      (λ l. subst (λ (z : ℤ). InRange z) (sym (laid_same axis b i l.1)) (stack_near i h axis b))
      (lt_split i n)

  moved : AcceptsStack n levels t (laid ps es)
  moved = accepted_moved a (laid ps es) laid_long laid_near

  pub stack_ready : (s : ℕ) → s ≡ edges M → StackReady n s levels t (laid ps es)
  unfolding level
  stack_ready s e = record { accepted = moved; counted = e; most = stack_most; refined = λ k l. rw (count_is k) (as_refined k l).mesh; near = all_near }

  -- the control mesh is in the map
  pub control_in_map : n ≤ W
  unfolding whole stack_count
  control_in_map = control_first (sizes_of n M) levels

  -- ---- the map, cleared and with the named vertices marked

  module _ (m₀ m₁ m₂ : List ℕ) (cleared : marked m₁ ≡ emptied (word_count W * 32) (marked m₀)) (named : marked m₂ ≡ with_named (marked m₁) es) where
    before_is : (i : ℕ) → marked m₂ i ≡ named_in es i || emptied (word_count W * 32) (marked m₀) i
    unfolding with_named
    before_is i = ap (λ (s : ℕ → Bool). s i) named ∙ ap (λ (s : ℕ → Bool). named_in es i || s i) cleared

    or_none : (b c : Bool) → c ≡ false → b || c ≡ b
    or_none true c e = refl
    or_none false c e = e

    none_or : (b c : Bool) → b ≡ false → b || c ≡ c
    none_or b c e = rw e

    pub control_marked : (v : ℕ) → v < n → marked m₂ v ≡ named_in es v
    control_marked v h = let w = control_in_map in before_is v ∙ or_none (named_in es v) _ (emptied_in (word_count W * 32) (marked m₀) v (omega arith))

    unmarked : (i : ℕ) → n ≤ i → i < word_count W * 32 → marked m₂ i ≡ false
    unmarked i l h = before_is i ∙ none_or (named_in es i) _ (named_low n es low i l) ∙ emptied_in (word_count W * 32) (marked m₀) i h

    behind : (i : ℕ) → word_count W * 32 ≤ i → marked m₂ i ≡ marked m₀ i
    behind i h = let w = control_in_map in before_is i ∙ none_or (named_in es i) _ (named_low n es low i (omega arith)) ∙ emptied_out (word_count W * 32) (marked m₀) i h

    pub map_ready : word_count W ≤ length m₂ → MapReady n levels t m₂
    unfolding whole
    map_ready r = record { room = omega arith; unmarked = λ i l h. unmarked i l (omega arith) }

    module _ (m₃ : List ℕ) (o : TouchedMarked n levels t (marked m₂) (marked m₃)) where
      pub counted : members (marked m₃) (word_count W * 32) ≡ touched_total n levels t ps (named_in es)
      unfolding touched_total whole loop level rows
      counted =
          marks_counted a o (λ i l h. let w = control_in_map in unmarked i (omega arith) h)
          ∙ count_same (loop M) (loop_grounded M a.control.sound) (marked m₂) (named_in es) control_marked (suc levels)

      positions_are : refreshed_positions n t (marked m₂) (laid ps es) levels ≡ refreshed_positions n t (named_in es) (laid ps es) levels
      positions_are =
          positions_by moved (named_in es) control_marked held (λ axis k x l h. refl)
          ∙ sym (positions_by moved (named_in es) (λ v h. refl) held (λ axis k x l h. refl))
        where
          held : ℕ → ℕ → ℕ → ℤ
          held axis k x = coordinate_at (laid ps es) axis (level_start (sizes_of n (rows n t)) k + x)

      pub positions_after : (qs ts : List ℤ) → qs ≡ laid ps es → ts ≡ refreshed_positions n t (marked m₂) qs levels → ts ≡ refreshed_positions n t (named_in es) (laid ps es) levels
      positions_after qs ts e h = h ∙ ap (λ (q : List ℤ). refreshed_positions n t (marked m₂) q levels) e ∙ positions_are

      pub map_marked : word_count W ≤ length m₀ → Words m₀ → Words m₃ → length m₃ ≡ length m₀ → m₃ ≡ touched_map n levels t ps (named_in es) m₀
      unfolding touched_map touched_at whole
      map_marked room w₀ w₃ long =
          map_is (touched_at n levels t ps (named_in es)) W m₀ room m₃ w₃ w₀ long
          (λ i h. ⊎_elim
          (λ l. mark_by a (named_in es) control_marked o i l.1 ∙ sym (rw (lt-ltb i W l.1)))
          (λ l. o.behind i l.1 ∙ (let c = control_in_map in unmarked i (omega arith) h) ∙ sym (rw (le-ltb i W l.1)))
          (lt_split i W))
          (λ i h. o.behind i (omega arith) ∙ behind i h)
