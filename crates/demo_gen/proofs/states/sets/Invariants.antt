use Rattle.std.proofs.Common.{◌≡◌}
use Rattle.demo_gen.specs.Demo as words
use Rattle.demo_gen.proofs.states.sets.Given as goal

abbrev pub invariant-loop-tasks : goal.invariant-loop-tasks
invariant-loop-tasks l = l.made ≡ words.sets l.tasks
