use Rattle.std.proofs.Common.{arith}
use Rattle.replay.proofs.LapsRows.{one_more, still_low, all_moved, all_judged}
use Rattle.replay.proofs.laps.row.move_row.Goals as goal

pub laps_after-laps-requires : goal.laps_after-laps-requires
laps_after-laps-requires c =
    still_low _ _ _ _ _ c.loop-i.i c.loop-i.within c.loop-i.invariant c.requires.bounded c.requires.within (omega arith)

pub loop-i-preserved : goal.loop-i-preserved
loop-i-preserved c =
    one_more _ _ _ _ _ c.loop-i.i c.loop-i.within c.laps_after-laps.result c.is_still-within.result c.loop-i.invariant (omega arith) (omega arith)
    c.laps_after-laps.ensures c.is_still-within.ensures

pub returns-clause-moved : goal.returns-clause-moved
returns-clause-moved c = all_moved _ _ _ _ _ c.loop-i.i c.loop-i.within c.loop-i.invariant (omega arith)

pub returns-clause-answer : goal.returns-clause-answer
returns-clause-answer c = all_judged _ _ _ _ _ c.loop-i.i c.loop-i.within c.loop-i.invariant (omega arith)
