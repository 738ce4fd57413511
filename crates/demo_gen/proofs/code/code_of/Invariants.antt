use Rattle.std.proofs.Common.{◌≡◌, take}
use Rattle.demo_gen.specs.Demo as words
use Rattle.demo_gen.proofs.code.code_of.Given as goal

abbrev pub invariant-loop-task : goal.invariant-loop-task
invariant-loop-task l = l.made.items ≡ words.words_of (take l.task-index l.tasks)
