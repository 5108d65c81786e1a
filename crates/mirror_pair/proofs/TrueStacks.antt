-- A true stack (`TrueStack`): a refinement leaves one and lists of moves keep it so; a fact of every level is a fact of the stack; and of a
-- row above level 0 nothing is strange but a point beyond the range.
-- Assumes nothing.
use mathlib.Core.Path.{◌≡◌, refl, sym, ap, ◌∙◌, subst}
use mathlib.Core.List.{List, [], ◌∷◌}
use Prim.Native.Nat.{ℕ, zero, suc, ◌+◌, ◌≤◌, ◌<◌}
use native.Mathlib.Nat.{zero-add}
use native.Mathlib.Omega.{arith}
use lib.IntN.{ℤ}
use lib.ListN.{length}
use borrow.Author.Tests.{lt-ltb, eq-eqb}
use Rattle.mesh.specs.Mesh.{Mesh}
use Rattle.steps.specs.Mask.{refined}
use Rattle.steps.specs.Sizes.{sizes_of}
use Rattle.loop_step.specs.Refine.{level}
use Rattle.rings.specs.Table.{lent, Lent, valence_at, ring_of, rows, coordinate_at}
use Rattle.rings.specs.Check.{beyond_at}
use Rattle.stack_judge.specs.Stack.{level_start}
use Rattle.stack_judge.specs.StackVerdict.{stack_verdict}
use Rattle.stack_judge.proofs.Sizes.{level_count_lem, start_none}
use Rattle.stack_judge.proofs.StackVertices as stack
use Rattle.stack_judge.proofs.AcceptedStack.{stack_only}
use Rattle.stack_refine.specs.Refinement.{refine_valences, refine_rings, refine_positions}
use Rattle.stack_refine.proofs.StackIsRefined.{valence_is_refined, ring_is_refined, point_is_refined, control_stays}
use Rattle.stack_refine.proofs.StackKeeps.{lengths_stay}
use Rattle.stack_strange.specs.Expected.{other_than, whole, strange}
use Rattle.stack_strange.proofs.SameLists.{same_self}
use Rattle.stack_as_refined.proofs.StackRows.{strange_is}
use Rattle.move_plan.specs.declared.Move.{Move}
use Rattle.move_lists.specs.Apply.{apply_verdict, apply_positions}
use Rattle.move_lists.specs.Fresh.{ListCall, after_calls}
use Rattle.move_lists.proofs.AfterList.{refused_keeps, after_length}
use Rattle.move_lists.proofs.EveryLevelIsFresh.{refinement_is_fresh, list_keeps_fresh}
use Rattle.mirror_pair.specs.Pair.{TrueStack}
use Rattle.rings.specs.Refusal.{Verdict}
use Rattle.std.specs.Prelude.{Ok, Err}

-- ---- after a refinement

module _ (n levels : ℕ) (t : Lent) (ps : List ℤ) (accepted : (Ok tt) ≡ stack_verdict n levels t ps) where
  abbrev t₁ : Lent
  t₁ = lent (refine_valences n levels t ps) (refine_rings n levels t ps)

  abbrev ps₁ : List ℤ
  ps₁ = refine_positions n levels t ps

  -- control vertex v by its number in the stack
  at : (v : ℕ) → v ≡ level_start (sizes_of n (rows n t)) 0 + v
  at v = sym (zero-add v) ∙ ap (λ s. s + v) (sym (start_none (sizes_of n (rows n t))))

  -- its ring, valence and point stay
  pub control_ring : (v : ℕ) → v < n → ring_of t₁ v ≡ ring_of t v
  unfolding level rows
  control_ring v h = ap (ring_of t₁) (at v) ∙ ring_is_refined n levels t ps accepted 0 v (omega arith) h ∙ rw (lt-ltb v n h)

  pub control_valence : (v : ℕ) → v < n → valence_at t₁ v ≡ length (ring_of t v)
  unfolding level rows
  control_valence v h = ap (λ i. valence_at t₁ i) (at v) ∙ valence_is_refined n levels t ps accepted 0 v (omega arith) h ∙ rw (lt-ltb v n h)

  pub control_point : (axis : ℕ) → axis < 3 → (v : ℕ) → v < n → coordinate_at ps₁ axis v ≡ coordinate_at ps axis v
  unfolding level rows refined
  control_point axis b v h = ap (coordinate_at ps₁ axis) (at v) ∙ point_is_refined n levels t ps accepted 0 v (omega arith) h axis b

  -- so a refined stack is as refinement leaves it
  pub refinement_leaves_a_true_stack : TrueStack n levels t₁ ps₁
  refinement_leaves_a_true_stack =
      let d = (stack_only n levels t ps (sym accepted)).control in
      record {
        sound = rw (control_stays n levels t ps accepted) d.sound;
        room = (let r = d.points in let l = (lengths_stay n levels t ps).1.1 in omega arith);
        valence = λ k x l.
            subst (λ (K : Mesh). x < (level K (suc k)).count → valence_at t₁ (level_start (sizes_of n K) (suc k) + x) ≡ length ((level K (suc k)).ring x))
            (sym (control_stays n levels t ps accepted)) (valence_is_refined n levels t ps accepted (suc k) x l);
        ring = λ k x l.
            subst (λ (K : Mesh). x < (level K (suc k)).count → ring_of t₁ (level_start (sizes_of n K) (suc k) + x) ≡ (level K (suc k)).ring x)
            (sym (control_stays n levels t ps accepted)) (ring_is_refined n levels t ps accepted (suc k) x l);
        fresh = refinement_is_fresh n levels t ps (sym accepted);
      }

-- ---- after lists of moves

module _ (n levels : ℕ) (t : Lent) (ps : List ℤ) (map : List ℕ) (ms : List Move) where
  pub length_stays : length (apply_positions n levels t ps map ms) ≡ length ps
  length_stays = go (apply_verdict n levels t ps map ms) refl
    where
      go : (v : Verdict) → apply_verdict n levels t ps map ms ≡ v → length (apply_positions n levels t ps map ms) ≡ length ps
      go (Err r) e = ap length (refused_keeps n levels t ps map ms r e)
      go (Ok u) e = after_length n levels t ps map ms e

  pub list_keeps_the_stack_true : TrueStack n levels t ps → TrueStack n levels t (apply_positions n levels t ps map ms)
  list_keeps_the_stack_true K = record {
    sound = K.sound;
    room = rw length_stays K.room;
    valence = K.valence;
    ring = K.ring;
    fresh = list_keeps_fresh n levels t ps map ms K.fresh;
  }

pub lists_keep_the_stack_true : (n levels : ℕ) (t : Lent) (cs : List ListCall) (ps : List ℤ) → TrueStack n levels t ps
    → TrueStack n levels t (after_calls n levels t cs ps)
lists_keep_the_stack_true n levels t [] ps K = K
lists_keep_the_stack_true n levels t (c ∷ cs) ps K =
    lists_keep_the_stack_true n levels t cs (apply_positions n levels t ps c.map c.moves)
    (list_keeps_the_stack_true n levels t ps c.map c.moves K)

-- ---- level by level

-- a row as it is wanted is strange only by its point
other_is_beyond : (want : List ℕ) (t : Lent) (ps : List ℤ) (j : ℕ) → valence_at t j ≡ length want → ring_of t j ≡ want
    → other_than want t ps j ≡ beyond_at ps j
unfolding other_than
other_is_beyond want t ps j e f = rw (f, eq-eqb (valence_at t j) (length want) e, same_self want)

module _ (n levels : ℕ) (t : Lent) (ps : List ℤ) (K : TrueStack n levels t ps) where
  abbrev M : Mesh
  M = rows n t

  -- what holds of every vertex of every level holds of every vertex of the stack
  pub by_levels : (Q : ℕ → Type 0) → ((k x : ℕ) → k ≤ levels → x < (level M k).count → Q (level_start (sizes_of n M) k + x))
      → (j : ℕ) → j < whole n levels t ps → Q j
  unfolding whole rows
  by_levels Q each = stack.by_levels (sizes_of n M) levels Q (λ k x l h. each k x l (rw (level_count_lem M K.sound k) h))

  -- the same, with the control mesh by itself
  pub by_control : (Q : ℕ → Type 0) → ((v : ℕ) → v < n → Q v)
      → ((k x : ℕ) → k < levels → x < (level M (suc k)).count → Q (level_start (sizes_of n M) (suc k) + x))
      → (j : ℕ) → j < whole n levels t ps → Q j
  unfolding level rows
  by_control Q control above = by_levels Q each
    where
      each : (k x : ℕ) → k ≤ levels → x < (level M k).count → Q (level_start (sizes_of n M) k + x)
      each zero x l h = subst Q (sym (zero-add x) ∙ ap (λ s. s + x) (sym (start_none (sizes_of n M)))) (control x h)
      each (suc k) x l h = above k x l h

  pub strange_is_beyond : (k x : ℕ) → k < levels → x < (level M (suc k)).count
      → strange n levels t ps (level_start (sizes_of n M) (suc k) + x) ≡ beyond_at ps (level_start (sizes_of n M) (suc k) + x)
  unfolding rows
  strange_is_beyond k x l g =
      strange_is n levels t ps k x l (rw (level_count_lem M K.sound (suc k)) at g)
      ∙ other_is_beyond ((level M (suc k)).ring x) t ps (level_start (sizes_of n M) (suc k) + x) (K.valence k x l g) (K.ring k x l g)
