use Rattle.trace_check.specs.Working.Following.{Judging}
use Rattle.trace_check.proofs.judging.judge_on.Given as goal

abbrev pub invariant-loop-place : goal.invariant-loop-place
invariant-loop-place l = Judging l.plant l.cert l.trace l.tables l.follower l.place
