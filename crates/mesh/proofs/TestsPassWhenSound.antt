-- The tests that compute, reasons 4, 5 and 6 of document 01, pass exactly on the meshes that keep the ring rules;
-- each test passes at a vertex exactly where its rule holds there; and where one fails, `first` is the lowest vertex at which it does.
-- Assumes nothing.
use mathlib.Core.Path.{◌≡◌, ap}
use mathlib.Core.Bool.{Bool, true, false, not, ◌||◌}
use mathlib.Core.Logic.{◌↔◌}
use Prim.Native.Nat.{ℕ, ◌<◌}
use lib.Dec.{ltb}
use lib.ListN.{length}
use borrow.Author.Tests.{le-ltb, ltb-false, not-true}
use Rattle.mesh.specs.Search.{first, some}
use Rattle.mesh.specs.Ring.{◌∈◌, Distinct, next, Follows}
use Rattle.mesh.specs.Mesh.{Mesh, Proper, Sound}
use Rattle.mesh.specs.Tests.{improper, unfit, one_sided, open_faced, tests_pass}
use Rattle.mesh.proofs.First.{or_false, or_both, some_all, none_some, some_at, first_clear}
use Rattle.mesh.proofs.Checked as C

module _ (M : Mesh) where
  -- the theorem
  pub tests_pass_when_sound : (tests_pass M ≡ true) ↔ Sound M
  unfolding tests_pass unfit
  tests_pass_when_sound = (only, all)
    where
      only : not (some (unfit M) M.count || (some (one_sided M) M.count || some (open_faced M) M.count)) ≡ true → Sound M
      only e =
          let a = or_false (some (unfit M) M.count) (some (one_sided M) M.count || some (open_faced M) M.count) (not-true _ e) in
          let b = or_false (some (one_sided M) M.count) (some (open_faced M) M.count) a.1 in
          let fit = some_all (unfit M) M.count a.0 in
          C.sound_of M
          (λ v h. ltb-false (length (M.ring v)) 3 (or_false (ltb (length (M.ring v)) 3) (improper M v) (fit.below v h)).0)
          (λ v h. (or_false (ltb (length (M.ring v)) 3) (improper M v) (fit.below v h)).1)
          (some_all (one_sided M) M.count b.0).below
          (some_all (open_faced M) M.count b.1).below

      all : Sound M → not (some (unfit M) M.count || (some (one_sided M) M.count || some (open_faced M) M.count)) ≡ true
      all S =
          ap not
          (or_both _ _
          (none_some (unfit M) M.count (λ v h. or_both _ _ (le-ltb (length (M.ring v)) 3 (S.three v h)) (C.sound_proper M S v h)))
          (or_both _ _ (none_some (one_sided M) M.count (C.sound_mutual M S)) (none_some (open_faced M) M.count (C.sound_face M S))))

  module _ (v : ℕ) where
    -- 4 and the ring's own rules
    pub improper_fails_when_proper : (improper M v ≡ false) ↔ Proper M v
    improper_fails_when_proper = (C.proper_of M v, C.of_proper M v)

    -- 5 and neighbours that have v back
    pub one_sided_fails_when_mutual : (one_sided M v ≡ false) ↔ ((u : ℕ) → u ∈ M.ring v → v ∈ M.ring u)
    one_sided_fails_when_mutual = (C.mutual_of M v, C.of_mutual M v)

    -- 6 and triangles at v, for a ring without repeats
    pub open_faced_fails_when_closed : Distinct (M.ring v)
        → (open_faced M v ≡ false) ↔ ((u : ℕ) → u ∈ M.ring v → let w = next (M.ring v) u in Follows (M.ring w) v u × Follows (M.ring u) w v)
    open_faced_fails_when_closed d = (C.face_of M v, C.of_face M v d)

-- where a test holds at some number below n, `first` is one at which it holds, and it holds at none before
pub lowest : (test : ℕ → Bool) (n : ℕ) → some test n ≡ true → (first test n < n) × (test (first test n) ≡ true) × ((u : ℕ) → u < first test n → test u ≡ false)
lowest test n e = let a = some_at test n e in (a.0, a.1, (first_clear test n).below)
