use Rattle.std.proofs.Common.{◌≡◌, length}
use Rattle.oil_model.specs.Rules.{least, least_of}
use Rattle.oil_model.proofs.rule.least_of.Given as goal

abbrev pub invariant-loop-first : goal.invariant-loop-first
invariant-loop-first l = least l.fault (least_of l.rest) ≡ least_of l.fn.faults

abbrev pub decreases-loop-first : goal.decreases-loop-first
decreases-loop-first l = length l.rest
