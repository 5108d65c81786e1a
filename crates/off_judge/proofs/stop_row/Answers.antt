-- `stop_row` meets its contract: what a row's entries tell is whether it stops the block. Assumes nothing.
use mathlib.Core.Path.{◌∙◌}
use borrow.Author.Rules.{rules}
use Rattle.mesh.proofs.First.{first_same}
use Rattle.mesh.proofs.Searches.{first_found}
use Rattle.off_judge.proofs.Stops.{told, told_is}
use Rattle.off_judge.proofs.stop_row.Goals as goal

pub returns : goal.returns
returns c =
    let a = c.args in
    c.unwrap_or.ensures
    ∙ first_found (told a.count a.width a.counts.now a.froms.now a.tos.now) _ _ _ _ c.find.ensures.ran (λ x b q k. search rules)
    ∙ first_same _ _ _ (λ k h. told_is c.requires.gathered h c.requires.room c.requires.count_value)
