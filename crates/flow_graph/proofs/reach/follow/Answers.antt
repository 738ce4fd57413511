use Rattle.std.proofs.Common.{arith}
use Rattle.flow_graph.specs.Working.Judged.{program_in}
use Rattle.flow_graph.proofs.Reaching.{search_goes_on_at}
use Rattle.flow_graph.proofs.reach.follow.Goals as goal

pub loop-place-preserved : goal.loop-place-preserved
loop-place-preserved c =
    search_goes_on_at (program_in c.args.program.now) c.loop-place.place c.loop-place.found c.in_ok-found.found c.loop-place.invariant
    (omega arith) c.in_ok-found.ensures
