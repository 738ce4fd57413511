use Rattle.std.proofs.Common.{List, subst}
use Rattle.timing_file.specs.declared.timing.Loop.{Loop}
use Rattle.replay.specs.Working.Laps.{AreStarted}
use Rattle.replay.proofs.LapsKept.{start_kept}
use Rattle.replay.proofs.laps.Laps.new.Goals as goal

pub returns : goal.returns
returns c image = start_kept image c.args.system.now c.args.timing.now c.count_of.result _ c.count_of.ensures
    (subst (λ (loops : List Loop). AreStarted loops c.count_of.result c.in_ok-contexts.contexts.items) c.as_slice.ensures c.in_ok-contexts.ensures)
