use Rattle.std.proofs.Common.{◌≡◌, map, take}
use Rattle.demo_gen.specs.Demo as words
use Rattle.demo_gen.proofs.code.symbols_of.Given as goal

abbrev pub invariant-loop-task : goal.invariant-loop-task
invariant-loop-task l = l.made ≡ map words.symbol_of (take l.task-index l.tasks)
