-- What the listing relies on and says at each outcome of reading and of refining. Assumes nothing.
use Prim.Native.Nat.{ℕ, ◌+◌, ◌*◌, ◌≤◌, ◌<◌}
use mathlib.Core.Path.{◌≡◌, refl, sym, ap, ◌∙◌}
use mathlib.Core.List.{List, ◌++◌}
use native.Mathlib.Omega.{arith}
use borrow.Author.Tests.{lt-ltb, le-ltb}
use lib.IntN.{ℤ, pos}
use lib.ListN.{length, replicate}
use Rattle.mesh.specs.Mesh.{edges, faces}
use Rattle.steps.specs.Sizes.{Sizes, sizes_of}
use Rattle.loop_step.specs.Refine.{level}
use Rattle.rings.specs.Table.{Lent, lent, rows, gather, put}
use Rattle.rings.specs.Verdict.{with_counts}
use Rattle.rings.specs.declared.Refusal.{Refusal}
use Rattle.rings.specs.declared.Refusal.TheVariants.{NoRoom}
use Rattle.stack_judge.specs.Stack.{stack_count}
use Rattle.stack_judge.specs.StackVerdict.{stack_verdict}
use Rattle.stack_judge.proofs.AcceptedStack.{stack_only}
use Rattle.stack_judge.proofs.Sizes.{level_count_lem, start_none, start_suc}
use Rattle.stack_refine.specs.Refinement.{refine_answer}
use Rattle.file_reading.specs.Read.{read_answer, read_valences, read_rings, read_positions}
use Rattle.numerals.specs.Wrote.{Wrote}
use Rattle.listing_lines.specs.Lines.{counts_line, vertex_line, refused_line}
use Rattle.listing_text.specs.Listing.{level_text, refined_text, mesh_text, file_text, listing_text}
use Rattle.rings.specs.Refusal.{Amount, Counted, Verdict, counted}
use Rattle.std.specs.Prelude.{Ok, Err}
use Rattle.rings.proofs.Verdicts.{same_counts}

-- a stack of one level has the control vertices and those of level 1
one_level : (s : Sizes) → stack_count s 1 ≡ s.vertices + (s.vertices + s.edges)
unfolding stack_count
one_level s = omega (arith, start_none s, start_suc s 0, start_suc s 1)

module _ (n : ℕ) (t : Lent) (ps : List ℤ) (v e f : ℕ) where
  -- level 1 stands in the tables where refinement answers its counts
  pub level_fits : counted v e f ≡ refine_answer n 1 t ps → (n + v ≤ length t.valences) × ((n + v) * 3 ≤ length ps)
  unfolding refine_answer with_counts rows
  level_fits h = go (stack_verdict n 1 t ps) refl h
    where
      go : (w : Verdict) → stack_verdict n 1 t ps ≡ w → counted v e f ≡ with_counts w (level (rows n t) 1).count (edges (level (rows n t) 1)) (faces (level (rows n t) 1))
          → (n + v ≤ length t.valences) × ((n + v) * 3 ≤ length ps)
      go (Ok u) g h =
          let a = stack_only n 1 t ps g in
          let c : v ≡ (level (rows n t) 1).count = (same_counts h).0 in
          let m : (rows n t).count ≡ n = refl in
          let d = level_count_lem (rows n t) a.control.sound 1 in
          let s = one_level (sizes_of n (rows n t)) in
          (omega (arith, a.room.valences), omega (arith, a.points))
      go (Err r) g h = let z : ◌≡◌ {A = ℕ} 0 1 = cc in absurd (omega arith)

-- ---- the text at each outcome

-- refinement is refused, or answers the counts of level 1 and leaves these tables
pub level_refused : (n : ℕ) (vs : List ℕ) (ps : List ℤ) {x y : Counted} {r : Refusal} → x ≡ Err r → x ≡ y → refused_line r ≡ level_text n vs ps y
unfolding level_text
level_refused n vs ps e f = ap (level_text n vs ps) (sym e ∙ f)

pub level_counted : (n : ℕ) {vs₁ vs : List ℕ} {ps₁ ps : List ℤ} {x y : Counted} (v e f : ℕ) → x ≡ counted v e f → x ≡ y → vs₁ ≡ vs → ps₁ ≡ ps
    → counts_line 1 v e f ++ gather (vertex_line vs₁ ps₁ n) v ≡ level_text n vs ps y
unfolding level_text
level_counted n {vs₁} {vs} {ps₁} {ps} v e f a b g h =
    ap (λ (l : List ℕ). level_text n l ps₁ (counted v e f)) g ∙ ap (λ (l : List ℤ). level_text n vs l (counted v e f)) h ∙ ap (level_text n vs ps) (sym a ∙ b)

module _ (s : List ℕ) (t : Lent) (ps : List ℤ) where
  -- reading is refused, or answers V and leaves these tables
  pub read_refused : {x : Amount} {r : Refusal} → x ≡ Err r → x ≡ read_answer s t ps → refused_line r ≡ file_text s t ps
  unfolding file_text mesh_text
  read_refused e f = ap (mesh_text (lent (read_valences s t ps) (read_rings s t ps)) (read_positions s t ps)) (sym e ∙ f)

  pub read_counted : {x : Amount} (n : ℕ) (t₁ : Lent) (ps₁ : List ℤ) → x ≡ Ok n → x ≡ read_answer s t ps → t₁.valences ≡ read_valences s t ps → t₁.rings ≡ read_rings s t ps → ps₁ ≡ read_positions s t ps
      → refined_text n t₁ ps₁ ≡ file_text s t ps
  unfolding file_text mesh_text
  read_counted n t₁ ps₁ e f a b g =
      ap (λ (l : List ℕ). mesh_text (lent l t₁.rings) ps₁ (Ok n)) a
      ∙ ap (λ (l : List ℕ). mesh_text (lent (read_valences s t ps) l) ps₁ (Ok n)) b
      ∙ ap (λ (l : List ℤ). mesh_text (lent (read_valences s t ps) (read_rings s t ps)) l (Ok n)) g
      ∙ ap (mesh_text (lent (read_valences s t ps) (read_rings s t ps)) (read_positions s t ps)) (sym e ∙ f)

-- the input is too long, or not
pub listing_long : (s : List ℕ) → 16384 < length s → refused_line NoRoom ≡ listing_text s
unfolding listing_text
listing_long s h = rw (lt-ltb 16384 (length s) h)

pub listing_read : (s : List ℕ) → length s ≤ 16384 → file_text s (lent (replicate 256 0) (replicate 8192 0)) (replicate 768 (pos 0)) ≡ listing_text s
unfolding listing_text
listing_read s h = rw (le-ltb 16384 (length s) h)

-- what is written from place 0 on is the whole text
pub whole_text : {l m a : List ℕ} {k n : ℕ} (b : List ℕ) → Wrote l 0 a m k n → n ≤ 32768 → a ≡ b → (m ≡ put l 0 b) × ((k ≡ length b) × (k ≤ 32768))
whole_text {l} {m} {a} {k} {n} b w h e =
    let f = w.ends in
    let g = w.within in
    (w.put.is ∙ ap (put l 0) e, (let z : k ≡ length a = omega arith in z ∙ ap length e, omega arith))
