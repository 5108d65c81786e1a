-- From the parts to the level: numbers of new vertices, what the tables keep while the new vertices are written, and their valences. Assumes nothing.
use Prim.Native.Nat.{ℕ, zero, suc, ◌+◌, ◌-◌, ◌*◌, ◌≤◌, ◌<◌}
use mathlib.Core.Path.{◌≡◌, refl, sym, ap, subst, ◌∙◌}
use mathlib.Core.List.{List, [], ◌∷◌, ◌++◌, append_assoc, append-nil}
use native.Mathlib.Nat.{add-zero}
use native.Mathlib.Numerals.{add-one}
use native.Mathlib.Omega.{arith}
use lib.IntN.{ℤ, pos}
use lib.ListN.{length, get_or, take, drop, replicate, length-drop, length-replicate, replicate-append-replicate}
use lib.Seq.{length-take-le, drop-drop}
use borrow.Rule.Slice.PartMut.{put_mid}
use Rattle.mesh.specs.Limits.{place_bound, null_vertex}
use Rattle.mesh.specs.Mesh.{Mesh, Sound, edges, over}
use Rattle.mesh.specs.Numbering.{below}
use Rattle.loop_step.specs.Refine.{mid, old_ring, refine}
use Rattle.loop_step.proofs.Refined.{new_valence}
use Rattle.rings.specs.Table.{Lent, lent, valence_at, put, gather, ring_of, rows, padded, valence_rows}
use Rattle.rings.proofs.Tables.{put_more}
use Rattle.loop_points.specs.Level.{Ready, Levels, HasOld, UpTo, start_of, valences_up_to, rings_up_to, positions_up_to}
use Rattle.loop_points.proofs.Mids.{ready_length, counted_mid}
use Rattle.loop_points.proofs.Kept.{behind_ring}
use Rattle.loop_points.proofs.OldRings.{old_length, old_end}
use Rattle.loop_points.proofs.NextLevel.{start_more, length_valences}
use Rattle.loop_halves.specs.Nearer.{Nearer, rings_next, positions_next}
use Rattle.loop_halves.proofs.Targets.{target_old, held_row, kept_ready, kept_rows}
use Rattle.loop_halves.proofs.PointTargets.{kept_near}
use Rattle.loop_halves.proofs.Steps.{below_over, length_over}
use Rattle.loop_sweep.proofs.Done.{Done, done_rows, done_again}

-- ---- numbers

-- m(p,q) by how many neighbours of p are below q, and how many of them are not over p
pub numbered : {n : ℕ} {t : Lent} (r : Ready n t) (p i : ℕ) → p < n → i < valence_at t p → (q : ℕ) → q ≡ get_or (ring_of t p) i 0 → p < q
    → (table : List ℕ) → table ≡ ring_of t p → (s c low : ℕ) → s ≡ start_of n t p → c ≡ below q table → low ≡ below (suc p) (ring_of t p)
    → (low ≤ c) × ((n + s + c - low ≡ mid (rows n t) p (get_or (ring_of t p) i 0)) × (n + s + c - low < place_bound))
numbered {n} {t} r p i h l q e g table d s c low a b f =
    let w = counted_mid r p i h l q e g table d s (below q (over p table)) a refl in
    let x : below q table ≡ below (suc p) table + below q (over p table) = below_over p q table g in
    let y : low ≡ below (suc p) table = f ∙ ap (below (suc p)) (sym d) in
    let z : n + s + c - low ≡ n + s + below q (over p table) = omega arith in
    (omega arith, (z ∙ w.0, subst (λ (k : ℕ). k < place_bound) (sym z) w.1))

-- where the next vertex's numbers start
pub next_start : {n : ℕ} {t : Lent} (r : Ready n t) (p : ℕ) → p < n → (s m low : ℕ) (ring : List ℕ) → s ≡ start_of n t p → m ≡ valence_at t p → ring ≡ ring_of t p → low ≡ below (p + 1) ring
    → (low ≤ s + m) × (s + m - low ≡ start_of n t (p + 1))
next_start {n} {t} r p h s m low ring a b d f =
    let u = start_more n t p h in
    let c = ready_length r h in
    let x = length_over p (ring_of t p) in
    let y : low ≡ below (suc p) (ring_of t p) = f ∙ ap (λ (k : ℕ). below k ring) (add-one p) ∙ ap (below (suc p)) d in
    (omega arith, omega arith)

pub low_is : (p low : ℕ) (ring table : List ℕ) → ring ≡ table → low ≡ below (p + 1) ring → low ≡ below (suc p) table
low_is p low ring table d f = f ∙ ap (λ (k : ℕ). below k ring) (add-one p) ∙ ap (below (suc p)) d

-- ---- what the tables keep

pub held_old : {n : ℕ} {t : Lent} {ps : List ℤ} (r : Ready n t) → UpTo n n t ps → HasOld n t n
held_old r u = record { place = λ v l i m. let w = r.most v l in held_row r u.rings v i l (omega arith) ∙ target_old r v i l m }

pub kept_both : {n : ℕ} {t : Lent} {ps : List ℤ} (L : Levels n t ps) {rs' : List ℕ} {ps' : List ℤ} → Nearer 0 (rings_next n t) t.rings rs' → Nearer (pos 0) (positions_next n t ps) ps ps' → Levels n (lent t.valences rs') ps'
kept_both {n} {t} L f g =
    let e : edges (rows n (lent t.valences _)) ≡ edges (rows n t) = ap edges (kept_rows L.ready f) in
    let a = g.long in
    let b = L.points in
    record { ready = kept_ready L.ready f; near = kept_near L g; points = omega arith }

-- the ring of p stays while its row of the next level is written
pub part_ring : {n : ℕ} {t : Lent} (r : Ready n t) (p k : ℕ) (h : p < n) → k ≤ valence_at t p → {now : List ℕ} → now ≡ put t.rings ((n + p) * 32) (take k (old_ring (rows n t) p)) → ring_of (lent t.valences now) p ≡ ring_of t p
part_ring {n} {t} r p k h l q =
    let b : List ℕ = take k (old_ring (rows n t) p) in
    let w : length b ≡ k = length-take-le k (old_ring (rows n t) p) (let e = old_length r h in omega arith) in
    let m = r.most p h in
    let a = r.room.rings in
    rw q (behind_ring n t r ((n + p) * 32) b (omega arith) (omega arith) p h)

-- the row is whole after its m used places and the unused ones
pub old_end_at : {n : ℕ} {t : Lent} (r : Ready n t) (p : ℕ) (h : p < n) (m : ℕ) → m ≡ valence_at t p → (k : ℕ) → k ≤ m → {now : List ℕ} → now ≡ put t.rings ((n + p) * 32) (take k (old_ring (rows n t) p)) → m ≤ k
    → {last : List ℕ} → last ≡ put now ((n + p) * 32 + m) (replicate (32 - m) null_vertex) → last ≡ put t.rings ((n + p) * 32) (padded (old_ring (rows n t) p))
old_end_at {n} {t} r p h m e k a {now} q b {last} z =
    let l : k ≤ valence_at t p = omega arith in
    old_end r h l q (omega arith) (subst (λ (x : ℕ). last ≡ put now ((n + p) * 32 + x) (replicate (32 - x) null_vertex)) e z)

-- ---- a part filled with one number

pub part_filled : (table : List ℕ) (a e x : ℕ) → e ≤ length table → {part : List ℕ} → part ≡ replicate (length (take (e - a) (drop a table))) x → put_mid a (e - a) table part ≡ put table a (replicate (e - a) x)
unfolding put
part_filled table a e x h {part} q =
    let w : length (take (e - a) (drop a table)) ≡ e - a = length-take-le (e - a) (drop a table) (omega (arith, length-drop a table)) in
    rw (q, w, length-replicate, drop-drop)

-- ---- the whole level, from the tables with its old vertices or from the first ones, is the same

module _ {n : ℕ} {t : Lent} {ps : List ℤ} (L : Levels n t ps) {t₁ : Lent} {ps₁ : List ℤ} (d : Done n n t ps t₁ ps₁) where
  same_rows : rows n t₁ ≡ rows n t
  same_rows = done_rows L d (omega arith)

  whole : {t₂ : Lent} {ps₂ : List ℤ} → Done n (n + edges (rows n t)) t₁ ps₁ t₂ ps₂ → Done n (n + edges (rows n t)) t ps t₂ ps₂
  whole f = done_again L d (omega arith) (n + edges (rows n t)) (omega arith) (omega arith) f

  pub rings_again : {rs₂ : List ℕ} → rs₂ ≡ rings_up_to n (n + edges (rows n t₁)) t₁ → rs₂ ≡ rings_up_to n (n + edges (rows n t)) t
  rings_again {rs₂} e =
      let e' : rs₂ ≡ rings_up_to n (n + edges (rows n t)) t₁ = e ∙ ap (λ (N : Mesh). rings_up_to n (n + edges N) t₁) same_rows in
      (whole (record { valences = refl; rings = e'; positions = refl })).rings

  pub positions_again : {ps₂ : List ℤ} → ps₂ ≡ positions_up_to n (n + edges (rows n t₁)) t₁ ps₁ → ps₂ ≡ positions_up_to n (n + edges (rows n t)) t ps
  positions_again {ps₂} e =
      let e' : ps₂ ≡ positions_up_to n (n + edges (rows n t)) t₁ ps₁ = e ∙ ap (λ (N : Mesh). positions_up_to n (n + edges N) t₁ ps₁) same_rows in
      (whole (record { valences = refl; rings = refl; positions = e' })).positions

-- ---- valences

module _ {n : ℕ} {t : Lent} {ps : List ℤ} (L : Levels n t ps) where
  abbrev M : Mesh
  M = rows n t

  abbrev S : Sound (rows n t)
  S = L.ready.sound

  sixes : (j : ℕ) → j ≤ edges M → gather (λ v. length ((refine M).ring v) ∷ []) (n + j) ≡ gather (λ v. length ((refine M).ring v) ∷ []) n ++ replicate j 6
  unfolding rows
  sixes zero h = ap (gather (λ v. length ((refine M).ring v) ∷ [])) (add-zero n) ∙ sym (append-nil _)
  sixes (suc j) h =
      let f : ℕ → List ℕ = λ v. length ((refine M).ring v) ∷ [] in
      let e : n + suc j ≡ suc (n + j) = omega arith in
      let v : length ((refine M).ring (n + j)) ≡ 6 = new_valence M S (n + j) (omega arith) (omega arith) in
      let u : List ℕ = replicate j 6 in
      let w : u ++ (6 ∷ []) ≡ replicate (suc j) 6 = replicate-append-replicate {A = ℕ} j 1 6 ∙ ap (λ (k : ℕ). replicate k 6) (add-one j) in
      ap (gather f) e
      ∙ ap (λ (table : List ℕ). table ++ f (n + j)) (sixes j (omega arith))
      ∙ ap (λ (k : ℕ). (gather f n ++ replicate j 6) ++ (k ∷ [])) v
      ∙ append_assoc (gather f n) (replicate j 6) (6 ∷ [])
      ∙ ap (λ (table : List ℕ). gather f n ++ table) w

  pub valences_whole : {vs₁ vs₂ : List ℕ} → vs₁ ≡ valences_up_to n n t → (m : ℕ) → m ≡ edges M → vs₂ ≡ put vs₁ (n + n) (replicate (n + n + m - (n + n)) 6) → vs₂ ≡ valences_up_to n (n + edges M) t
  unfolding valences_up_to valence_rows
  valences_whole {vs₁} {vs₂} a m b c =
      let f : ℕ → List ℕ = λ v. length ((refine M).ring v) ∷ [] in
      let l : length (gather f n) ≡ n = length_valences M S n in
      let k : n + n + m - (n + n) ≡ edges M = omega arith in
      let u : List ℕ = replicate (edges M) 6 in
      let w : length u ≡ edges M = length-replicate {A = ℕ} (edges M) 6 in
      let i : n + length (gather f n) ≡ n + n = omega arith in
      let z = L.ready.room.valences in
      c
      ∙ ap (λ (x : ℕ). put vs₁ (n + n) (replicate x 6)) k
      ∙ ap (λ (table : List ℕ). put table (n + n) (replicate (edges M) 6)) a
      ∙ ap (λ (x : ℕ). put (put t.valences n (gather f n)) x (replicate (edges M) 6)) (sym i)
      ∙ put_more t.valences n (gather f n) (omega arith) (replicate (edges M) 6) (omega arith)
      ∙ ap (put t.valences n) (sym (sixes (edges M) (omega arith)))
