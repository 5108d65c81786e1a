-- Is the right shoe the left shoe? (Document 02, order 3.) Two control meshes are mirrored, and a refinement of the left one is accepted.
-- Then refine both, and give the left any lists of moves, accepted or refused, and the right the same lists mirrored: every vertex of every
-- level is mirrored, and the next list is answered alike and marks the same map.
-- Assumes nothing.
use mathlib.Core.Path.{◌≡◌}
use mathlib.Core.List.{List}
use Prim.Native.Nat.{ℕ, ◌<◌}
use lib.IntN.{ℤ}
use lib.ListN.{get_or}
use Rattle.rings.specs.Table.{Lent, lent}
use Rattle.move_map.specs.Map.{word_count}
use Rattle.stack_judge.specs.StackVerdict.{stack_verdict}
use Rattle.stack_refine.specs.Refinement.{refine_valences, refine_rings, refine_positions}
use Rattle.stack_strange.specs.Expected.{whole}
use Rattle.move_lists.specs.Apply.{apply_verdict, apply_answer, apply_map}
use Rattle.move_lists.specs.Fresh.{ListCall, after_calls}
use Rattle.mirror_pair.specs.Pair.{MirroredTables, Pair}
use Rattle.mirror_pair.specs.MirroredLists.{MirroredCall, MirroredCalls}
use Rattle.mirror_pair.proofs.RefinementMakesThePair.{refinement_makes_a_pair}
use Rattle.mirror_pair.proofs.PairsAreMirrored.{pair_is_mirrored}
use Rattle.mirror_pair.proofs.ListsKeepThePair as lists
use Rattle.std.specs.Prelude.{Ok}

module _ (n levels : ℕ) (t : Lent) (ps : List ℤ) (t' : Lent) (ps' : List ℤ) (mirrored : MirroredTables n t ps t' ps')
    (accepted : stack_verdict n levels t ps ≡ (Ok tt)) (cs ds : List ListCall) (calls : MirroredCalls cs ds) where
  -- the tables of both sides after the refinement and the lists
  abbrev pub left_valences : List ℕ
  left_valences = refine_valences n levels t ps

  abbrev pub left_rings : List ℕ
  left_rings = refine_rings n levels t ps

  abbrev pub left_positions : List ℤ
  left_positions = after_calls n levels (lent left_valences left_rings) cs (refine_positions n levels t ps)

  abbrev pub right_valences : List ℕ
  right_valences = refine_valences n levels t' ps'

  abbrev pub right_rings : List ℕ
  right_rings = refine_rings n levels t' ps'

  abbrev pub right_positions : List ℤ
  right_positions = after_calls n levels (lent right_valences right_rings) ds (refine_positions n levels t' ps')

  pub stays_a_pair : Pair n levels (lent left_valences left_rings) left_positions (lent right_valences right_rings) right_positions
  stays_a_pair =
      lists.lists_keep_the_pair n levels (lent left_valences left_rings) (lent right_valences right_rings) cs ds calls
      (refine_positions n levels t ps) (refine_positions n levels t' ps')
      (refinement_makes_a_pair n levels t ps t' ps' mirrored accepted)

  -- the theorem: mirrored as far as the stack goes
  pub right_shoe_is_left_shoe : MirroredTables (whole n levels (lent left_valences left_rings) left_positions)
      (lent left_valences left_rings) left_positions (lent right_valences right_rings) right_positions
  right_shoe_is_left_shoe =
      pair_is_mirrored n levels (lent left_valences left_rings) left_positions (lent right_valences right_rings) right_positions stays_a_pair

  -- one list more
  module _ (c d : ListCall) (call : MirroredCall c d) where
    pub next_list_is_answered_alike : apply_answer n levels (lent right_valences right_rings) right_positions d.map d.moves
        ≡ apply_answer n levels (lent left_valences left_rings) left_positions c.map c.moves
    next_list_is_answered_alike =
        rw call.moves
        (lists.list_is_answered_alike n levels (lent left_valences left_rings) left_positions (lent right_valences right_rings) right_positions stays_a_pair
        c.map d.map c.moves call.words)

    pub next_list_marks_the_same_words : apply_verdict n levels (lent left_valences left_rings) left_positions c.map c.moves ≡ (Ok tt)
        → (w : ℕ) → w < word_count (whole n levels (lent left_valences left_rings) left_positions)
        → get_or (apply_map n levels (lent right_valences right_rings) right_positions d.map d.moves) w 0
        ≡ get_or (apply_map n levels (lent left_valences left_rings) left_positions c.map c.moves) w 0
    next_list_marks_the_same_words =
        rw call.moves
        (lists.list_marks_the_same_words n levels (lent left_valences left_rings) left_positions (lent right_valences right_rings) right_positions stays_a_pair
        c.map d.map c.moves call.words)
