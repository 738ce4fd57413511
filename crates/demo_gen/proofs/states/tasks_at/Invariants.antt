use Rattle.std.proofs.Common.{◌≡◌, take}
use Rattle.demo_gen.specs.Demo as words
use Rattle.demo_gen.proofs.states.tasks_at.Given as goal

abbrev pub invariant-loop-number : goal.invariant-loop-number
invariant-loop-number l = l.tasks ≡ words.tasks_at 0 (take l.number l.set)
