use Rattle.replay.proofs.LapsTables.{fresh_rows}
use Rattle.replay.proofs.laps.invocations.Invocations.new.Goals as goal

pub returns : goal.returns
returns c = fresh_rows c.args.loops.now c.in_ok-rows_of.field-0.items c.in_ok-rows_of.ensures
