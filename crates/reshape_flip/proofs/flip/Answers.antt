-- `flip` meets its contract. Assumes nothing.
use Rattle.rings.proofs.Verdicts.{handed_on}
use Rattle.reshape_tables.proofs.CallsAnswered.{edited_long, edited_done}
use Rattle.reshape_flip.proofs.FlipDone.{flip_refused, flippable, flipped}
use Rattle.reshape_flip.proofs.flip.Goals as goal

pub returns-in_err-p : goal.returns-in_err-p
returns-in_err-p c =
    let t = flip_refused _ _ _ _ _ c.in_err-p.ensures in
    record { value = handed_on c.from_residual.ensures t.0; rings_after = t.1.0; valences_after = t.1.1 }

pub write_flip-requires : goal.write_flip-requires
write_flip-requires c = flippable _ _ _ _ _ c.in_ok-p.ensures

pub counts-requires : goal.counts-requires
counts-requires c =
    let t = edited_long (flipped _ _ _ _ _ c.in_ok-p.ensures) c.write_flip.ensures.rings_after c.write_flip.ensures.valences_after in
    record { count_in_bounds = t.0; count_le_most_count = t.1 }

pub returns : goal.returns
returns c =
    let done = edited_done (flipped _ _ _ _ _ c.in_ok-p.ensures) c.write_flip.ensures.rings_after c.write_flip.ensures.valences_after c.counts.ensures in
    record { value = done.0; rings_after = done.1.0; valences_after = done.1.1 }
