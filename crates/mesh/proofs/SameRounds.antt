-- Rings that are the same up to where they begin (`SameRound`): the same entries, and each is followed and preceded by the same one.
-- And a ring reversed: what went before follows.
-- Assumes nothing.
use mathlib.Core.Path.{◌≡◌, refl, sym, ap, ap₂, ◌∙◌, subst}
use mathlib.Core.List.{List, [], ◌∷◌, ◌++◌, reverse, map, append-nil, append_assoc, reverse-append, map-append}
use mathlib.Core.List.{Permᴰ}
use mathlib.Core.Logic.{⊎_elim}
use Prim.Native.Nat.{ℕ, zero, suc, ◌≤◌, ◌<◌}
use native.Mathlib.Omega.{arith}
use lib.ListN.{length, get_or, take, drop, length-append, length-drop, take-append-drop, get_or-append}
use lib.Seq.{take-append_seam, drop-append_seam, get_or-append_seam, get_or-drop, ext_get_or, split_at}
use borrow.Author.Tests.{eq-eqb, ne_eqb}
use Rattle.mesh.specs.Ring.{times, ◌∈◌, Distinct, place, place_after, next, prev, SameRound}
use Rattle.mesh.proofs.Lists.{eq_split, lt_split, here}
use Rattle.mesh.proofs.Rings.{in_cons, place_lt, get_or_in, get_or_place, next_in, prev_in, next_prev}
use Rattle.mesh.proofs.RingsGoRound.{next_inner, next_of_last, next_of_one, prev_of_one, prev_is_what_it_follows}
use Rattle.mesh.proofs.Shuffled.{length_shuffled, in_shuffled, distinct_shuffled}

-- ---- a ring in two parts

-- the parts of a ring exchanged
pub exchanged : (xs ys : List ℕ) → SameRound (xs ++ ys) (ys ++ xs)
exchanged xs ys = record {
  start = length xs;
  within = (let e = length-append xs ys in omega arith);
  turned = sym (ap₂ (λ a b. a ++ b) (drop-append_seam xs ys) (take-append_seam xs ys));
}

in_parts : (l m xs ys : List ℕ) → l ≡ xs ++ ys → m ≡ ys ++ xs → SameRound l m
in_parts l m xs ys d e = rw (d, e) (exchanged xs ys)

-- so it is enough to show a thing of exchanged parts
pub by_parts : (P : List ℕ → List ℕ → Type 0) → ((xs ys : List ℕ) → P (xs ++ ys) (ys ++ xs)) → (l m : List ℕ) → SameRound l m → P l m
by_parts P h l m s =
    let xs : List ℕ = take s.start l in
    let ys : List ℕ = drop s.start l in
    subst (λ k. P k m) (take-append-drop s.start l) (subst (P (xs ++ ys)) (sym s.turned) (h xs ys))

pub same_round : (l m : List ℕ) → m ≡ l → SameRound l m
same_round l m e = record { start = 0; within = omega arith; turned = e ∙ sym (append-nil l) }

pub round_back : (l m : List ℕ) → SameRound l m → SameRound m l
round_back = by_parts (λ l m. SameRound m l) (λ xs ys. exchanged ys xs)

pub round_shuffled : (l m : List ℕ) → SameRound l m → Permᴰ l m
round_shuffled = by_parts Permᴰ mathlib.Core.List.Permᴰ.append_comm

pub round_reversed : (l m : List ℕ) → SameRound l m → SameRound (reverse l) (reverse m)
round_reversed =
    by_parts (λ l m. SameRound (reverse l) (reverse m))
    (λ xs ys. in_parts (reverse (xs ++ ys)) (reverse (ys ++ xs)) (reverse ys) (reverse xs) (reverse-append xs ys) (reverse-append ys xs))

pub round_mapped : (f : ℕ → ℕ) (l m : List ℕ) → SameRound l m → SameRound (map f l) (map f m)
round_mapped f =
    by_parts (λ l m. SameRound (map f l) (map f m))
    (λ xs ys. in_parts (map f (xs ++ ys)) (map f (ys ++ xs)) (map f xs) (map f ys) (map-append f xs ys) (map-append f ys xs))

-- ---- what follows

-- the first entry moved to the end
module _ (a : ℕ) (l : List ℕ) (o : Distinct (a ∷ l)) where
  abbrev m : List ℕ
  m = l ++ (a ∷ [])

  long : length m ≡ suc (length l)
  long = length-append l (a ∷ []) ∙ omega arith

  d : Distinct m
  d = distinct_shuffled (mathlib.Core.List.Permᴰ.append_comm (a ∷ []) l) o

  -- by the place of x in a ∷ l
  next_at_place : (i : ℕ) → i < suc (length l) → next m (get_or (a ∷ l) i 0) ≡ next (a ∷ l) (get_or (a ∷ l) i 0)
  next_at_place zero h = first l refl
    where
      first : (k : List ℕ) → k ≡ l → next m a ≡ next (a ∷ l) a
      first [] e = subst (λ k. next (k ++ (a ∷ [])) a ≡ next (a ∷ k) a) e refl
      first (b ∷ k) e =
          ap (next m) (sym (get_or-append_seam l a [] 0))
          ∙ next_of_last m d (length l) (sym long)
          ∙ get_or-append l (a ∷ []) 0 0 (let z = ap length e in omega arith)
          ∙ sym (next_inner (a ∷ l) o 0 (let z = ap length e in omega arith))
  next_at_place (suc j) h =
      ap (next m) (sym (get_or-append l (a ∷ []) 0 j (omega arith)))
      ∙ next_inner m d j (omega (arith, long))
      ∙ ⊎_elim
      (λ g. get_or-append l (a ∷ []) 0 (suc j) g.1 ∙ sym (next_inner (a ∷ l) o (suc j) (omega (arith, g.1))))
      (λ g.
      let e : suc j ≡ length l = omega (arith, g.1) in
      ap (λ k. get_or m k 0) e ∙ get_or-append_seam l a [] 0 ∙ sym (next_of_last (a ∷ l) o (suc j) (ap suc e)))
      (lt_split (suc j) (length l))

  next_moved : (x : ℕ) → x ∈ a ∷ l → next m x ≡ next (a ∷ l) x
  next_moved x i = subst (λ y. next m y ≡ next (a ∷ l) y) (get_or_place x (a ∷ l) 0 i) (next_at_place (place x (a ∷ l)) (place_lt x (a ∷ l) i))

next_exchanged : (xs ys : List ℕ) → Distinct (xs ++ ys) → (x : ℕ) → x ∈ xs ++ ys → next (ys ++ xs) x ≡ next (xs ++ ys) x
next_exchanged [] ys o x i = ap (λ l. next l x) (append-nil ys)
next_exchanged (a ∷ xs) ys o x i =
    let p : Permᴰ (a ∷ (xs ++ ys)) (xs ++ (ys ++ (a ∷ []))) =
    subst (Permᴰ (a ∷ (xs ++ ys))) (append_assoc xs ys (a ∷ [])) (mathlib.Core.List.Permᴰ.append_comm (a ∷ []) (xs ++ ys)) in
    ap (λ l. next l x) (sym (append_assoc ys (a ∷ []) xs))
    ∙ next_exchanged xs (ys ++ (a ∷ [])) (distinct_shuffled p o) x (in_shuffled x p i)
    ∙ ap (λ l. next l x) (sym (append_assoc xs ys (a ∷ [])))
    ∙ next_moved a (xs ++ ys) o x i

-- where a ring begins is nothing to what follows
pub next_round : (l m : List ℕ) → SameRound l m → Distinct l → (x : ℕ) → x ∈ l → next m x ≡ next l x
next_round = by_parts (λ l m. Distinct l → (x : ℕ) → x ∈ l → next m x ≡ next l x) next_exchanged

-- two lists of entries that differ, equally long, that begin alike and go on alike are the same
same_walk : (l m : List ℕ) → Distinct l → Distinct m → length m ≡ length l → get_or m 0 0 ≡ get_or l 0 0
    → ((x : ℕ) → x ∈ l → next m x ≡ next l x) → m ≡ l
same_walk l m o d e b n = ext_get_or 0 m l e (λ i h. go i h)
  where
    go : (i : ℕ) → i < length m → get_or m i 0 ≡ get_or l i 0
    go zero h = b
    go (suc i) h =
        let k : get_or m i 0 ≡ get_or l i 0 = go i (omega arith) in
        sym (next_inner m d i h) ∙ ap (next m) k ∙ n (get_or l i 0) (get_or_in l i 0 (omega arith)) ∙ next_inner l o i (omega arith)

-- rings of as many and the same entries, each of which is followed by the same one, are the same up to where they begin
module _ (l : List ℕ) (o : Distinct l) where
  turned_at : (y : ℕ) (m : List ℕ) → length (y ∷ m) ≡ length l → ((x : ℕ) → times x (y ∷ m) ≡ times x l)
      → ((x : ℕ) → x ∈ l → next (y ∷ m) x ≡ next l x) → SameRound l (y ∷ m)
  turned_at y m e t n =
      let there-y : y ∈ l = omega (arith, t y, here y m) in
      let i = place_lt y l there-y in
      let r : List ℕ = drop (place y l) l ++ take (place y l) l in
      let R : SameRound l r = record { start = place y l; within = omega arith; turned = refl } in
      let p : Permᴰ l r = round_shuffled l r R in
      let first_is : y ≡ get_or r 0 0 = sym (get_or_place y l 0 there-y) ∙ sym (front (place y l) l i) in
      record {
        start = place y l;
        within = omega arith;
        turned =
            same_walk r (y ∷ m) (distinct_shuffled p o) (λ x. omega (arith, t x, o x)) (e ∙ length_shuffled p) first_is (λ x g.
            let there-x : x ∈ l = in_shuffled x (mathlib.Core.List.Permᴰ.symm p) g in
            n x there-x ∙ sym (next_round l r R o x there-x));
      }
    where
      front : (k : ℕ) (l : List ℕ) → k < length l → get_or (drop k l ++ take k l) 0 0 ≡ get_or l k 0
      front k l h = get_or-append (drop k l) (take k l) 0 0 (omega (arith, length-drop k l)) ∙ get_or-drop k l 0 0 ∙ ap (λ j. get_or l j 0) (omega arith)

  pub round_by_next : (m : List ℕ) → length m ≡ length l → ((x : ℕ) → times x m ≡ times x l) → ((x : ℕ) → x ∈ l → next m x ≡ next l x) → SameRound l m
  round_by_next [] e t n = same_round l [] (sym (nothing l (sym e)))
    where
      nothing : (l : List ℕ) → length l ≡ 0 → l ≡ []
      nothing [] h = refl
      nothing (a ∷ l) h = absurd (omega arith)
  round_by_next (y ∷ m) e t n = turned_at y m e t n

-- ---- the other way round

-- two rings with the same entries, in which what follows in the one goes before in the other
pub record Facing (l m : List ℕ) : Type 0 where
  pub entries : Permᴰ l m
  pub next_is : (x : ℕ) → x ∈ l → next m x ≡ prev l x
  pub prev_is : (x : ℕ) → x ∈ l → prev m x ≡ next l x

pub reverse_shuffled : (l : List ℕ) → Permᴰ l (reverse l)
reverse_shuffled l = mathlib.Core.List.Permᴰ.symm (mathlib.Core.List.Permᴰ.reverse l)

second_is_next : (a b : ℕ) (l : List ℕ) → next (a ∷ b ∷ l) a ≡ b
unfolding next place_after
second_is_next a b l = rw (eq-eqb a a refl, ne_eqb 1 (suc (suc (length l))) (omega arith))

module _ (l : List ℕ) (o : Distinct l) where
  back : Distinct (reverse l)
  back = distinct_shuffled (reverse_shuffled l) o

  -- where x follows a, a follows x in the ring reversed
  next_of_reversed : (a x : ℕ) (r : List ℕ) → SameRound l (a ∷ x ∷ r) → x ∈ l → next (reverse l) x ≡ a
  next_of_reversed a x r s i =
      let whole : List ℕ = reverse (a ∷ x ∷ r) in
      let parts : whole ≡ reverse r ++ (x ∷ a ∷ []) = reverse-append (a ∷ x ∷ []) r in
      let p : Permᴰ l whole = mathlib.Core.List.Permᴰ.trans (round_shuffled l (a ∷ x ∷ r) s) (reverse_shuffled (a ∷ x ∷ r)) in
      let t : SameRound whole (x ∷ a ∷ reverse r) = in_parts whole (x ∷ a ∷ reverse r) (reverse r) (x ∷ a ∷ []) parts refl in
      sym (next_round (reverse l) whole (round_reversed l (a ∷ x ∷ r) s) back x (in_shuffled x (reverse_shuffled l) i))
      ∙ sym (next_round whole (x ∷ a ∷ reverse r) t (distinct_shuffled p o) x (in_shuffled x p i))
      ∙ second_is_next x a (reverse r)

  -- l read from the entry before x on
  from_before : (x : ℕ) → x ∈ l → 2 ≤ length l → (r : List ℕ) → SameRound l (prev l x ∷ r) → next (reverse l) x ≡ prev l x
  from_before x i two [] s = absurd (let e = length_shuffled (round_shuffled l (prev l x ∷ []) s) in omega arith)
  from_before x i two (y ∷ r) s =
      let w : ℕ = prev l x in
      let y_is : y ≡ x = sym (second_is_next w y r) ∙ next_round l (w ∷ y ∷ r) s o w (prev_in l x i) ∙ next_prev l o x i in
      next_of_reversed w x r (subst (λ z. SameRound l (w ∷ z ∷ r)) y_is s) i

  next_reversed_long : (x : ℕ) → x ∈ l → 2 ≤ length l → next (reverse l) x ≡ prev l x
  next_reversed_long x i two =
      let w : ℕ = prev l x in
      let k : ℕ = place w l in
      let m : w ∈ l = prev_in l x i in
      let h : k < length l = place_lt w l m in
      let front : List ℕ = take k l in
      let rest : List ℕ = drop (suc k) l in
      let split : l ≡ front ++ (w ∷ rest) = split_at l k 0 h ∙ ap (λ y. front ++ (y ∷ rest)) (get_or_place w l 0 m) in
      from_before x i two (rest ++ front) (in_parts l (w ∷ (rest ++ front)) front (w ∷ rest) split refl)

-- what follows in the reversed ring is what goes before
next_reversed : (l : List ℕ) → Distinct l → (x : ℕ) → x ∈ l → next (reverse l) x ≡ prev l x
next_reversed [] o x i = absurd (omega arith)
next_reversed (a ∷ []) o x i =
    ⊎_elim (λ e. rw e.1 (next_of_one a ∙ sym (prev_of_one a))) (λ e. absurd (let z = in_cons x a [] i e.1 in omega arith)) (eq_split x a)
next_reversed (a ∷ b ∷ l) o x i = next_reversed_long (a ∷ b ∷ l) o x i (omega arith)

pub reversed_faces : (l m : List ℕ) → SameRound (reverse l) m → Distinct l → Facing l m
reversed_faces l m s o =
    let p : Permᴰ l m = mathlib.Core.List.Permᴰ.trans (reverse_shuffled l) (round_shuffled (reverse l) m s) in
    let ahead : (x : ℕ) → x ∈ l → next m x ≡ prev l x =
    λ x i. next_round (reverse l) m s (distinct_shuffled (reverse_shuffled l) o) x (in_shuffled x (reverse_shuffled l) i) ∙ next_reversed l o x i in
    record {
      entries = p;
      next_is = ahead;
      prev_is = λ x i.
          let y : ℕ = next l x in
          let j : y ∈ l = next_in l x i in
          prev_is_what_it_follows m (distinct_shuffled p o) y x (in_shuffled y p j) (ahead y j ∙ prev_is_what_it_follows l o x y i refl);
    }
