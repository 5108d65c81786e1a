-- The tables of a stack: each level that is written stands there as refinement defines it, level 0 and what lies behind the last level stay.
-- Assumes nothing.
use Prim.Native.Nat.{ℕ, zero, suc, ◌+◌, ◌-◌, ◌*◌, ◌≤◌, ◌<◌}
use mathlib.Core.Path.{◌≡◌, refl, sym, ap, ap₂, subst, ◌∙◌}
use mathlib.Core.Bool.{cond}
use mathlib.Core.List.{List, [], ◌∷◌}
use native.Mathlib.Nat.{zero-add, mul-one}
use native.Mathlib.Omega.{arith}
use lib.Dec.{ltb}
use lib.IntN.{ℤ, pos}
use lib.ListN.{length, get_or, take, drop, length-take, length-drop}
use lib.Seq.{get_or-take, get_or-drop, ext_get_or, drop-drop}
use borrow.Rule.Slice.PartMut.{put_mid}
use borrow.Author.Tests.{lt-ltb}
use Rattle.mesh.specs.Search.{sum}
use Rattle.mesh.specs.Mesh.{Mesh, mesh, Sound, edges}
use Rattle.mesh.proofs.Lists.{climbs, sum_same}
use Rattle.mesh.proofs.SoundMeshes.{mesh_same}
use Rattle.steps.specs.Mask.{refined}
use Rattle.steps.specs.Sizes.{sizes_of}
use Rattle.loop_step.specs.Refine.{low_end, high_end, old_ring, new_ring, refine, level}
use Rattle.loop_step.specs.Loop.{loop}
use Rattle.loop_step.proofs.Levels.{level_sound}
use Rattle.rings.specs.Table.{Lent, lent, valence_at, gather, put, ring_of, rows, padded, valence_rows, ring_rows, coordinate_at, point_rows}
use Rattle.rings.proofs.Rows.{rows_ring, row_length, room_row}
use Rattle.rings.proofs.Tables.{length_padded}
use Rattle.rings.proofs.Blocks.{padded_at}
use Rattle.rings.proofs.LevelRows as L
use Rattle.stack_judge.specs.Stack.{level_count, level_start, stack_count}
use Rattle.stack_judge.specs.Accepts.{AcceptsStack}
use Rattle.stack_judge.proofs.Sizes.{level_count_lem}
use Rattle.loop_points.proofs.NextLevel.{short_ring}
use Rattle.stack_refine.specs.Refinement.{stacked_valences, stacked_rings, stacked_positions}

-- ---- rows of a level

level_row : (M : Mesh) → Sound M → (k x : ℕ) → length (padded ((level M (suc k)).ring x)) ≡ 32
unfolding level
level_row M S k x = length_padded ((level M (suc k)).ring x) (short_ring (level M k) (level_sound M S k) x)

-- ---- a row of a part is a row of the table

pub ring_part : (t : Lent) (b x : ℕ) → ring_of (lent (drop b t.valences) (drop (b * 32) t.rings)) x ≡ ring_of t (b + x)
unfolding ring_of
ring_part t b x =
    ap₂ (λ (n : ℕ) (r : List ℕ). take n r) (get_or-drop b t.valences x 0)
    (drop-drop (x * 32) (b * 32) t.rings ∙ ap (λ (k : ℕ). drop k t.rings) (let e : b * 32 + x * 32 ≡ (b + x) * 32 = omega arith in e))

pub point_part : (ps : List ℤ) (b axis x : ℕ) → coordinate_at (drop (b * 3) ps) axis x ≡ coordinate_at ps axis (b + x)
unfolding coordinate_at
point_part ps b axis x = get_or-drop (b * 3) ps (x * 3 + axis) (pos 0) ∙ ap (λ (k : ℕ). get_or ps k (pos 0)) (let e : b * 3 + (x * 3 + axis) ≡ (b + x) * 3 + axis = omega arith in e)

-- a ring read from the table, place by place
ring_is : (t : Lent) (v : ℕ) (ring : List ℕ) → valence_at t v ≡ length ring → v * 32 + length ring ≤ length t.rings
    → ((i : ℕ) → i < length ring → get_or t.rings (v * 32 + i) 0 ≡ get_or ring i 0) → ring_of t v ≡ ring
unfolding ring_of
ring_is t v ring n room same =
    let l : length (take (valence_at t v) (drop (v * 32) t.rings)) ≡ length ring = rw n (simp (length-take, length-drop) (omega arith)) in
    ext_get_or 0 (take (valence_at t v) (drop (v * 32) t.rings)) ring l
    (λ i h. get_or-take (valence_at t v) (drop (v * 32) t.rings) i 0 (omega arith) ∙ get_or-drop (v * 32) t.rings i 0 ∙ same i (omega arith))

ring_place : (t : Lent) (v i : ℕ) → i < valence_at t v → get_or (ring_of t v) i 0 ≡ get_or t.rings (v * 32 + i) 0
unfolding ring_of
ring_place t v i h = get_or-take (valence_at t v) (drop (v * 32) t.rings) i 0 h ∙ get_or-drop (v * 32) t.rings i 0

pub mesh_again : (n : ℕ) (rings : ℕ → List ℕ) → mesh n (mesh n rings).ring ≡ mesh n rings
mesh_again n rings = mesh_same n (mesh n rings).ring rings (λ v h. rw (lt-ltb v n h))

-- ---- the stack

module _ (n levels : ℕ) (t : Lent) (ps : List ℤ) (a : AcceptsStack n levels t ps) where
  abbrev M : Mesh
  M = rows n t

  abbrev size : ℕ → ℕ
  size k = (level M k).count

  S : Sound M
  S = a.control.sound

  pub start_is : (k : ℕ) → level_start (sizes_of n M) k ≡ sum size k
  unfolding level_start rows
  start_is k = sum_same (level_count (sizes_of n M)) size k (λ j l. sym (level_count_lem M S j))

  pub levels_room : (k : ℕ) → k ≤ levels → sum size (suc k) ≤ stack_count (sizes_of n M) levels
  unfolding stack_count
  levels_room k l = rw (start_is (suc levels)) (climbs (sum size) (λ i. omega arith) (suc k) (suc levels) (omega arith))

  -- the three tables as levels of rows
  abbrev valence_row : ℕ → ℕ → List ℕ
  valence_row j x = length ((level M (suc j)).ring x) ∷ []

  abbrev ring_row : ℕ → ℕ → List ℕ
  ring_row j x = padded ((level M (suc j)).ring x)

  abbrev point : ℕ → ℕ → ℕ → ℤ
  point axis j x = refined (loop M) (coordinate_at ps axis) j x

  abbrev point_row : ℕ → ℕ → List ℤ
  point_row j x = point 0 (suc j) x ∷ point 1 (suc j) x ∷ point 2 (suc j) x ∷ []

  module _ (k : ℕ) (l : k ≤ levels) where
    room₁ : sum size (suc k) * 1 ≤ length t.valences
    room₁ = let r = levels_room k l in let h = a.room.valences in rw (mul-one (sum size (suc k))) (omega arith)

    room₃₂ : sum size (suc k) * 32 ≤ length t.rings
    room₃₂ = let r = levels_room k l in let h = a.room.rings in omega arith

    room₃ : sum size (suc k) * 3 ≤ length ps
    room₃ = let r = levels_room k l in let h = a.points in omega arith

    valences_are : stacked_valences n k t ≡ L.stacked 1 valence_row (λ j x. refl) size t.valences k room₁
    unfolding stacked_valences valence_rows level rows
    valences_are = ap (λ (p : ℕ). put t.valences p (gather (λ j. gather (valence_row j) (size (suc j))) k)) (sym (mul-one n))

    rings_are : stacked_rings n k t ≡ L.stacked 32 ring_row (level_row M S) size t.rings k room₃₂
    unfolding stacked_rings ring_rows level rows
    rings_are = refl

    positions_are : stacked_positions n k t ps ≡ L.stacked 3 point_row (λ j x. refl) size ps k room₃
    unfolding stacked_positions point_rows level rows
    positions_are = refl

    axis_of : (axis : ℕ) → axis < 3 → (j x : ℕ) → get_or (point_row j x) axis (pos 0) ≡ point axis (suc j) x
    axis_of zero h j x = refl
    axis_of (suc zero) h j x = refl
    axis_of (suc (suc zero)) h j x = refl
    axis_of (suc (suc (suc i))) h j x = absurd (omega arith)

    -- lengths stay
    pub valences_length : length (stacked_valences n k t) ≡ length t.valences
    valences_length = ap length valences_are ∙ L.stacked_length 1 valence_row (λ j x. refl) size t.valences k room₁

    pub rings_length : length (stacked_rings n k t) ≡ length t.rings
    rings_length = ap length rings_are ∙ L.stacked_length 32 ring_row (level_row M S) size t.rings k room₃₂

    pub positions_length : length (stacked_positions n k t ps) ≡ length ps
    positions_length = ap length positions_are ∙ L.stacked_length 3 point_row (λ j x. refl) size ps k room₃

    -- level 0
    control_length : (x : ℕ) → x < n → valence_at t x ≡ length (M.ring x)
    control_length x h = sym (ap length (rows_ring n t x h) ∙ row_length t x (room_row a.control.room h (a.control.most x h)))

    pub control_valence : (x : ℕ) → x < n → get_or (stacked_valences n k t) x 0 ≡ valence_at t x
    unfolding level rows
    control_valence x h = ap (λ (list : List ℕ). get_or list x 0) valences_are ∙ L.stacked_before 1 valence_row (λ j x. refl) size t.valences k room₁ 0 x (rw (mul-one n) h)

    pub control_place : (p : ℕ) → p < n * 32 → get_or (stacked_rings n k t) p 0 ≡ get_or t.rings p 0
    unfolding level rows
    control_place p h = ap (λ (list : List ℕ). get_or list p 0) rings_are ∙ L.stacked_before 32 ring_row (level_row M S) size t.rings k room₃₂ 0 p h

    pub control_number : (p : ℕ) → p < n * 3 → get_or (stacked_positions n k t ps) p (pos 0) ≡ get_or ps p (pos 0)
    unfolding level rows
    control_number p h = ap (λ (list : List ℤ). get_or list p (pos 0)) positions_are ∙ L.stacked_before 3 point_row (λ j x. refl) size ps k room₃ (pos 0) p h

    -- ---- what stands there: vertex x of level j

    pub valence_at_lem : (j x : ℕ) → j ≤ k → x < size j → get_or (stacked_valences n k t) (sum size j + x) 0 ≡ length ((level M j).ring x)
    unfolding level rows
    valence_at_lem zero x h g = ap (λ (p : ℕ). get_or (stacked_valences n k t) p 0) (zero-add x) ∙ control_valence x g ∙ control_length x g
    valence_at_lem (suc j) x h g =
        let e : sum size (suc j) + x ≡ sum size (suc j) * 1 + (x * 1 + 0) = rw (mul-one (sum size (suc j)), mul-one x) (omega arith) in
        ap₂ (λ (list : List ℕ) (p : ℕ). get_or list p 0) valences_are e
        ∙ L.stacked_at 1 valence_row (λ j x. refl) size t.valences k room₁ 0 j x 0 h g (omega arith)

    -- a written row, with its unused places
    row_at : (j x i : ℕ) → j < k → x < size (suc j) → i < 32 → get_or (stacked_rings n k t) ((sum size (suc j) + x) * 32 + i) 0 ≡ get_or (padded ((level M (suc j)).ring x)) i 0
    row_at j x i h g q =
        let e : (sum size (suc j) + x) * 32 + i ≡ sum size (suc j) * 32 + (x * 32 + i) = omega arith in
        ap₂ (λ (list : List ℕ) (p : ℕ). get_or list p 0) rings_are e ∙ L.stacked_at 32 ring_row (level_row M S) size t.rings k room₃₂ 0 j x i h g q

    place_at : (j x i : ℕ) → j ≤ k → x < size j → i < length ((level M j).ring x) → get_or (stacked_rings n k t) ((sum size j + x) * 32 + i) 0 ≡ get_or ((level M j).ring x) i 0
    unfolding level rows
    place_at zero x i h g q =
        let m : length (M.ring x) ≤ 32 = (S.proper x g).short in
        let e : (0 + x) * 32 + i ≡ x * 32 + i = omega arith in
        ap (λ (p : ℕ). get_or (stacked_rings n k t) p 0) e
        ∙ control_place (x * 32 + i) (omega arith)
        ∙ sym (ap (λ (list : List ℕ). get_or list i 0) (rows_ring n t x g) ∙ ring_place t x i (omega (arith, control_length x g)))
    place_at (suc j) x i h g q =
        let ring : List ℕ = (level M (suc j)).ring x in
        let m : length ring ≤ 32 = ((level_sound M S (suc j)).proper x g).short in
        row_at j x i h g (omega arith) ∙ padded_at ring i q

    -- a vertex of a level has its row in the tables
    pub vertex_below : (j x : ℕ) → j ≤ k → x < size j → sum size j + x < sum size (suc k)
    vertex_below j x h g = let c = climbs (sum size) (λ i. omega arith) (suc j) (suc k) (omega arith) in omega arith

    pub ring_at_lem : (j x : ℕ) → j ≤ k → x < size j → ring_of (lent (stacked_valences n k t) (stacked_rings n k t)) (sum size j + x) ≡ (level M j).ring x
    ring_at_lem j x h g =
        let m : length ((level M j).ring x) ≤ 32 = ((level_sound M S j).proper x g).short in
        let b = vertex_below j x h g in
        let r = rings_length in
        let f = room₃₂ in
        ring_is (lent (stacked_valences n k t) (stacked_rings n k t)) (sum size j + x) ((level M j).ring x) (valence_at_lem j x h g) (omega arith) (λ i q. place_at j x i h g q)

    pub written_row : (j x : ℕ) → j < k → x < size (suc j) → take 32 (drop ((sum size (suc j) + x) * 32) (stacked_rings n k t)) ≡ padded ((level M (suc j)).ring x)
    written_row j x h g =
        let at : ℕ = (sum size (suc j) + x) * 32 in
        let b = vertex_below (suc j) x h g in
        let r = rings_length in
        let f = room₃₂ in
        let w : length (padded ((level M (suc j)).ring x)) ≡ 32 = level_row M S j x in
        let l : length (take 32 (drop at (stacked_rings n k t))) ≡ 32 = simp (length-take, length-drop) (omega arith) in
        ext_get_or 0 (take 32 (drop at (stacked_rings n k t))) (padded ((level M (suc j)).ring x)) (omega arith)
        (λ i q. get_or-take 32 (drop at (stacked_rings n k t)) i 0 (omega arith) ∙ get_or-drop at (stacked_rings n k t) i 0 ∙ row_at j x i h g (omega arith))

    pub coordinate_at_lem : (axis : ℕ) → axis < 3 → (j x : ℕ) → j ≤ k → x < size j → coordinate_at (stacked_positions n k t ps) axis (sum size j + x) ≡ refined (loop M) (coordinate_at ps axis) j x
    unfolding coordinate_at refined level rows
    coordinate_at_lem axis b zero x h g =
        let e : (0 + x) * 3 + axis ≡ x * 3 + axis = omega arith in
        ap (λ (p : ℕ). get_or (stacked_positions n k t ps) p (pos 0)) e ∙ control_number (x * 3 + axis) (omega arith)
    coordinate_at_lem axis b (suc j) x h g =
        let e : (sum size (suc j) + x) * 3 + axis ≡ sum size (suc j) * 3 + (x * 3 + axis) = omega arith in
        ap₂ (λ (list : List ℤ) (p : ℕ). get_or list p (pos 0)) positions_are e
        ∙ L.stacked_at 3 point_row (λ j x. refl) size ps k room₃ (pos 0) j x axis h g b
        ∙ axis_of axis b j x

    -- the mesh of a level's rings is the level
    level_mesh : (j : ℕ) → mesh (size j) (level M j).ring ≡ level M j
    unfolding level rows refine
    level_mesh zero = mesh_again n (ring_of t)
    level_mesh (suc j) = mesh_again (size j + edges (level M j)) (λ x. cond (ltb x (size j)) (old_ring (level M j) x) (new_ring (level M j) (low_end (level M j) x) (high_end (level M j) x)))

    -- level j as the part of the tables that begins where it does
    pub level_part : (j : ℕ) → j ≤ k → rows (size j) (lent (drop (sum size j) (stacked_valences n k t)) (drop (sum size j * 32) (stacked_rings n k t))) ≡ level M j
    unfolding rows
    level_part j h =
        mesh_same (size j) (ring_of (lent (drop (sum size j) (stacked_valences n k t)) (drop (sum size j * 32) (stacked_rings n k t)))) (level M j).ring
        (λ x g. ring_part (lent (stacked_valences n k t) (stacked_rings n k t)) (sum size j) x ∙ ring_at_lem j x h g)
        ∙ level_mesh j

    pub coordinate_part : (axis : ℕ) → axis < 3 → (j x : ℕ) → j ≤ k → x < size j → coordinate_at (drop (sum size j * 3) (stacked_positions n k t ps)) axis x ≡ refined (loop M) (coordinate_at ps axis) j x
    coordinate_part axis b j x h g = point_part (stacked_positions n k t ps) (sum size j) axis x ∙ coordinate_at_lem axis b j x h g

    -- ---- what stays behind the last level

    pub valence_behind : (p : ℕ) → sum size (suc k) ≤ p → get_or (stacked_valences n k t) p 0 ≡ valence_at t p
    valence_behind p h = ap (λ (list : List ℕ). get_or list p 0) valences_are ∙ L.stacked_behind 1 valence_row (λ j x. refl) size t.valences k room₁ 0 p (rw (mul-one (sum size (suc k))) h)

    pub place_behind : (p : ℕ) → sum size (suc k) * 32 ≤ p → get_or (stacked_rings n k t) p 0 ≡ get_or t.rings p 0
    place_behind p h = ap (λ (list : List ℕ). get_or list p 0) rings_are ∙ L.stacked_behind 32 ring_row (level_row M S) size t.rings k room₃₂ 0 p h

    pub number_behind : (p : ℕ) → sum size (suc k) * 3 ≤ p → get_or (stacked_positions n k t ps) p (pos 0) ≡ get_or ps p (pos 0)
    number_behind p h = ap (λ (list : List ℤ). get_or list p (pos 0)) positions_are ∙ L.stacked_behind 3 point_row (λ j x. refl) size ps k room₃ (pos 0) p h

    -- refining what is stacked already, where the control mesh is the same, writes the same valences and rings
    pub valences_again : (rs' : List ℕ) → rows n (lent (stacked_valences n k t) rs') ≡ M
        → stacked_valences n k (lent (stacked_valences n k t) rs') ≡ stacked_valences n k t
    unfolding stacked_valences valence_rows level rows
    valences_again rs' e =
        subst
        (λ (N : Mesh). put (stacked_valences n k t) n (gather (λ j. valence_rows (level N (suc j)).ring (level N (suc j)).count) k) ≡ stacked_valences n k t)
        (sym e)
        (subst (λ (p : ℕ). put (put t.valences p (L.blocks 1 valence_row (λ j x. refl) size k)) p (L.blocks 1 valence_row (λ j x. refl) size k) ≡ put t.valences p (L.blocks 1 valence_row (λ j x. refl) size k))
        (mul-one n) (L.stacked_over 1 valence_row (λ j x. refl) size t.valences k room₁ 0))

    pub rings_again : (vs' : List ℕ) → rows n (lent vs' (stacked_rings n k t)) ≡ M
        → stacked_rings n k (lent vs' (stacked_rings n k t)) ≡ stacked_rings n k t
    unfolding stacked_rings ring_rows level rows
    rings_again vs' e =
        subst
        (λ (N : Mesh). put (stacked_rings n k t) (n * 32) (gather (λ j. ring_rows (level N (suc j)).ring (level N (suc j)).count) k) ≡ stacked_rings n k t)
        (sym e)
        (L.stacked_over 32 ring_row (level_row M S) size t.rings k room₃₂ 0)

  -- ---- one level more: the parts that begin where level k does come back with its rows

  module _ (k : ℕ) (l : k < levels) (base : ℕ) (b : base ≡ sum size k) (count : ℕ) (c : count ≡ size k) where
    pub valences_more : (table : List ℕ) → table ≡ stacked_valences n k t → (part : List ℕ)
        → part ≡ put (take (length table - base) (drop base table)) count (valence_rows (level M (suc k)).ring (size (suc k)))
        → put_mid base (length table - base) table part ≡ stacked_valences n (suc k) t
    unfolding valence_rows
    valences_more table same part e =
        L.stacked_more 1 valence_row (λ j x. refl) size t.valences k (room₁ k (omega arith)) (room₁ (suc k) l)
        table (same ∙ valences_are k (omega arith)) base count (b ∙ sym (mul-one (sum size k))) (c ∙ sym (mul-one (size k))) part e
        ∙ sym (valences_are (suc k) l)

    pub rings_more : (table : List ℕ) → table ≡ stacked_rings n k t → (part : List ℕ)
        → part ≡ put (take (length table - base * 32) (drop (base * 32) table)) (count * 32) (ring_rows (level M (suc k)).ring (size (suc k)))
        → put_mid (base * 32) (length table - base * 32) table part ≡ stacked_rings n (suc k) t
    unfolding ring_rows
    rings_more table same part e =
        L.stacked_more 32 ring_row (level_row M S) size t.rings k (room₃₂ k (omega arith)) (room₃₂ (suc k) l)
        table (same ∙ rings_are k (omega arith)) (base * 32) (count * 32) (ap (λ (x : ℕ). x * 32) b) (ap (λ (x : ℕ). x * 32) c) part e
        ∙ sym (rings_are (suc k) l)

    pub positions_more : (table : List ℤ) → table ≡ stacked_positions n k t ps → (part : List ℤ)
        → part ≡ put (take (length table - base * 3) (drop (base * 3) table)) (count * 3) (point_rows (λ axis. refined (loop M) (coordinate_at ps axis) (suc k)) (size (suc k)))
        → put_mid (base * 3) (length table - base * 3) table part ≡ stacked_positions n (suc k) t ps
    unfolding point_rows
    positions_more table same part e =
        L.stacked_more 3 point_row (λ j x. refl) size ps k (room₃ k (omega arith)) (room₃ (suc k) l)
        table (same ∙ positions_are k (omega arith)) (base * 3) (count * 3) (ap (λ (x : ℕ). x * 3) b) (ap (λ (x : ℕ). x * 3) c) part e
        ∙ sym (positions_are (suc k) l)
