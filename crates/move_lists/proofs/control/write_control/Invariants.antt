-- The entries so far are laid over the positions, and their vertices are marked.
use Rattle.std.proofs.Common.{◌≡◌, take}
use Rattle.move_map.specs.Map.{marked}
use Rattle.move_plan.specs.Plan.{laid, with_named}
use Rattle.move_lists.proofs.control.write_control.Given as goal

abbrev pub invariant-loop-entry : goal.invariant-loop-entry
invariant-loop-entry l = record {
  points : l.positions ≡ laid l.initial.positions (take l.entry-index l.entry-items);
  marks : marked l.map ≡ with_named (marked l.initial.map) (take l.entry-index l.entry-items);
}
