-- `follow` meets its contract. Assumes nothing.
use native.Mathlib.Omega.{arith}
use borrow.Author.Rules.{rules}
use Rattle.std.proofs.lemmas.Iterator.{YieldsList-from_slice}
use Rattle.mesh.proofs.Searches.{place_found}
use Rattle.off_walk.proofs.Following.{follows_there, follows_none}
use Rattle.off_walk.proofs.follow.Goals as goal

pub returns-in-Some : goal.returns-in-Some
returns-in-Some c =
    follows_there _ _ _ _ _
    (place_found c.args.x c.args.from.now _ _ _ c.in-Some.ensures.ran (YieldsList-from_slice c.args.from.now c.iter.ensures.rest) (λ y b q k. search rules))
    (omega (arith, c.in-Some.ensures.bound))

pub returns-in-None : goal.returns-in-None
returns-in-None c =
    follows_none _ _ _ _ _
    (place_found c.args.x c.args.from.now _ _ _ c.in-None.ensures.ran (YieldsList-from_slice c.args.from.now c.iter.ensures.rest) (λ y b q k. search rules))
    (omega arith)
