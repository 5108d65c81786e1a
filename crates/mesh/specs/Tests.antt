-- To be believed.
-- The ring rules as tests of one vertex, in the order of reasons 4, 5 and 6. The check asks each of them for the lowest vertex.
-- Assumes nothing.
use Rattle.std.specs.Prelude.{Bool, not, ◌||◌, List, ℕ, leb, ltb, eqb, length, get_or}
use Rattle.mesh.specs.Limits.{least_valence, most_valence}
use Rattle.mesh.specs.Search.{some}
use Rattle.mesh.specs.Ring.{has, place, place_after, follows}
use Rattle.mesh.specs.Mesh.{Mesh}

-- the number at place i stands at an earlier place already
unfoldable pub repeat_at : List ℕ → ℕ → Bool
repeat_at l i = ltb (place (get_or l i 0) l) i

-- the number at place i of v's ring is not below n, is v itself, or is a repeat
unfoldable pub bad_at : ℕ → ℕ → List ℕ → ℕ → Bool
bad_at n v l i = leb n (get_or l i 0) || (eqb (get_or l i 0) v || repeat_at l i)

-- 4: the ring of v is improper
unfoldable pub improper : Mesh → ℕ → Bool
improper M v = ltb most_valence (length (M.ring v)) || some (bad_at M.count v (M.ring v)) (length (M.ring v))

-- 4: the ring of v is improper, or its valence is under 3
unfoldable pub unfit : Mesh → ℕ → Bool
unfit M v = ltb (length (M.ring v)) least_valence || improper M v

-- 5: the neighbour at place i of v's ring doesn't have v back
unfoldable pub lacks_at : Mesh → ℕ → ℕ → Bool
lacks_at M v i = not (has v (M.ring (get_or (M.ring v) i 0)))

-- some neighbour of v doesn't have v back
unfoldable pub one_sided : Mesh → ℕ → Bool
one_sided M v = some (lacks_at M v) (length (M.ring v))

-- 6: with u at place i of v's ring and w at the next, u doesn't follow v in w's ring, or v doesn't follow w in u's
unfoldable pub open_at : Mesh → ℕ → ℕ → Bool
open_at M v i =
    let u = get_or (M.ring v) i 0 in
    let w = get_or (M.ring v) (place_after (length (M.ring v)) i) 0 in
    not (follows (M.ring w) v u) || not (follows (M.ring u) w v)

-- some face at v is open
unfoldable pub open_faced : Mesh → ℕ → Bool
open_faced M v = some (open_at M v) (length (M.ring v))

-- no vertex fails a test
unfoldable pub tests_pass : Mesh → Bool
tests_pass M = not (some (unfit M) M.count || (some (one_sided M) M.count || some (open_faced M) M.count))
