use Rattle.std.proofs.Common.{◌≡◌, drop}
use Rattle.osek_kernel.specs.Running.{raised_by}
use Rattle.scheduler_moves.proofs.running.raised_by.Given as goal

abbrev pub invariant-loop-resource : goal.invariant-loop-resource
invariant-loop-resource l = raised_by l.system l.top (drop l.resource-index l.held) ≡ raised_by l.system l.base l.held
