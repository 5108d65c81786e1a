-- Numbers that go into a set one after the other, or a list of them at once. Assumes nothing.
use Prim.Native.Nat.{ℕ, ◌+◌, ◌-◌, ◌≤◌, ◌<◌}
use mathlib.Core.Path.{◌≡◌, refl, sym, ap, ◌∙◌, fun_ext}
use mathlib.Core.Bool.{Bool, true, false, ◌||◌, ◌&&◌}
use mathlib.Core.List.{List, [], ◌∷◌}
use mathlib.Core.Logic.{⊎_elim, ◌≢◌}
use native.Mathlib.Omega.{arith}
use lib.Dec.{leb, ltb}
use borrow.Author.Tests.{lt-ltb, le-leb, lt-leb, eq-eqb, ne_eqb}
use Rattle.mesh.specs.Ring.{times, ◌∈◌, has}
use Rattle.mesh.proofs.Lists.{eq_split, lt_split, le_split}
use Rattle.move_map.specs.Map.{including}
use Rattle.move_touched.specs.NextLevel.{joined}

has_both : (x : ℕ) (k l m : List ℕ) → times x k ≡ times x l + times x m → has x k ≡ has x l || has x m
unfolding has
has_both x k l m e =
    ⊎_elim
    (λ s. rw s.0 (let h = s.1 in lt-ltb 0 (times x k) (omega arith)))
    (λ s. rw s.0 (ap (ltb 0) (let h = s.1 in let q : times x k ≡ times x m = omega arith in q)))
    (lt_split 0 (times x l))

one_more : (a b c d : Bool) → (a || (b && c)) || (b && d) ≡ a || (b && (c || d))
one_more true b c d = refl
one_more false true c d = refl
one_more false false c d = refl

or_false : (a : Bool) → a || false ≡ a
or_false true = refl
or_false false = refl

or_true : (a : Bool) → a || true ≡ true
or_true true = refl
or_true false = refl

module _ (set : ℕ → Bool) (start : ℕ) where
  -- no list
  pub joined_none : set ≡ joined set start []
  unfolding joined has
  joined_none = fun_ext (λ j. sym (nothing (set j) (leb start j)))
    where
      nothing : (a b : Bool) → a || (b && false) ≡ a
      nothing true b = refl
      nothing false true = refl
      nothing false false = refl

  -- a list after a list, in any order
  pub joined_join : (k l m : List ℕ) → ((x : ℕ) → times x k ≡ times x l + times x m) → joined (joined set start l) start m ≡ joined set start k
  unfolding joined
  joined_join k l m e = fun_ext (λ j.
      rw (has_both (j - start) k l m (e (j - start))) (one_more (set j) (leb start j) (has (j - start) l) (has (j - start) m)))

  -- a number as a list
  pub including_is : (x : ℕ) → including set (start + x) ≡ joined set start (x ∷ [])
  unfolding joined including has
  including_is x = fun_ext (λ j.
      ⊎_elim
      (λ q.
      let e : j - start ≡ x = (let h = q.1 in omega arith) in
      rw (q.0, le-leb start j (let h = q.1 in omega arith), eq-eqb (j - start) x e) (sym (or_true (set j))))
      (λ q. rw q.0 (sym (⊎_elim
      (λ s.
      let e : j - start ≢ x = (λ z. q.1 (let h = s.1 in omega arith)) in
      rw (s.0, ne_eqb (j - start) x e) (or_false (set j)))
      (λ s. rw s.0 (or_false (set j)))
      (le_split start j))))
      (eq_split j (start + x)))

  -- number j of a set that a list went into
  pub joined_at : (l : List ℕ) (x : ℕ) → joined set start l (start + x) ≡ set (start + x) || has x l
  unfolding joined
  joined_at l x = let e : start + x - start ≡ x = omega arith in rw (le-leb start (start + x) (omega arith), e)

  pub joined_before : (l : List ℕ) (j : ℕ) → j < start → joined set start l j ≡ set j
  unfolding joined
  joined_before l j h = rw (lt-leb start j h) (or_false (set j))

  pub joined_behind : (l : List ℕ) (end : ℕ) → ((x : ℕ) → x ∈ l → x < end) → (j : ℕ) → start + end ≤ j → joined set start l j ≡ set j
  unfolding joined has
  joined_behind l end below j h =
      ⊎_elim
      (λ s. absurd (let k = below (j - start) s.1 in omega arith))
      (λ s. rw (le-leb start j (omega arith), s.0) (or_false (set j)))
      (lt_split 0 (times (j - start) l))

-- three numbers, one after the other
pub three_joined : (set : ℕ → Bool) (start a b c : ℕ) {first second third : ℕ → Bool} → first ≡ including set (start + a) → second ≡ including first (start + b)
    → third ≡ including second (start + c) → third ≡ joined set start (a ∷ b ∷ c ∷ [])
three_joined set start a b c {first} {second} {third} e f g =
    let one : first ≡ joined set start (a ∷ []) = e ∙ including_is set start a in
    let two : second ≡ joined set start (a ∷ b ∷ []) =
    f ∙ including_is first start b ∙ ap (λ (s : ℕ → Bool). joined s start (b ∷ [])) one
    ∙ joined_join set start (a ∷ b ∷ []) (a ∷ []) (b ∷ []) (λ x. omega arith) in
    g ∙ including_is second start c ∙ ap (λ (s : ℕ → Bool). joined s start (c ∷ [])) two
    ∙ joined_join set start (a ∷ b ∷ c ∷ []) (a ∷ b ∷ []) (c ∷ []) (λ x. omega arith)
