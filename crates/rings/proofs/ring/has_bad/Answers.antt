-- `has_bad` meets its contract. Assumes nothing.
use borrow.Author.Rules.{rules}
use Rattle.mesh.specs.Tests.{bad_at}
use Rattle.mesh.proofs.Searches.{some_found}
use Rattle.rings.proofs.ring.has_bad.Goals as goal

pub returns : goal.returns
returns c = some_found (bad_at c.args.count c.args.v c.args.ring.now) _ _ _ _ c.any.ensures.ran (λ x b q k. search rules)
