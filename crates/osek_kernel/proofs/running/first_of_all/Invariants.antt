use Rattle.std.proofs.Common.{◌≡◌, drop, None}
use Rattle.osek_kernel.specs.Running.{first_from}
use Rattle.osek_kernel.proofs.running.first_of_all.Given as goal

-- the first so far, and what is left, have the first of all
abbrev pub invariant-loop-task : goal.invariant-loop-task
invariant-loop-task l = first_from l.system l.first l.task (drop l.task l.states) ≡ first_from l.system None 0 l.states
