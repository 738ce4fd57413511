use Rattle.std.proofs.Common.{◌-◌}
use Rattle.flow_graph.specs.Working.Judged.{program_in}
use Rattle.flow_graph.specs.Working.Reached.{IsSearch}
use Rattle.flow_graph.proofs.reach.follow.Given as goal

abbrev pub invariant-loop-place : goal.invariant-loop-place
invariant-loop-place l = IsSearch (program_in l.program) l.place l.found

abbrev pub decreases-loop-place : goal.decreases-loop-place
decreases-loop-place l = 65536 - l.place
