-- `judge_new` meets its contract. Assumes nothing.
use Rattle.reshape_room.proofs.RoomJudged.{no_number_lem, no_room, room_for_one}
use Rattle.reshape_room.proofs.judge_new.Goals as goal

pub returns-then-count-ge-MOST_COUNT : goal.returns-then-count-ge-MOST_COUNT
returns-then-count-ge-MOST_COUNT c = no_number_lem _ _ _ c.if-count-ge-MOST_COUNT.true

pub returns-then-is_short : goal.returns-then-is_short
returns-then-is_short c = no_room _ _ _ c.if-count-ge-MOST_COUNT.false _ c.is_short.ensures c.if-is_short.true

pub returns : goal.returns
returns c = room_for_one _ _ _ c.if-count-ge-MOST_COUNT.false _ c.is_short.ensures c.if-is_short.false
