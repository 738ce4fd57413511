use Rattle.std.proofs.Common.{◌≡◌, length}
use Rattle.oil_model.specs.Attributes.{values_of}
use Rattle.oil_model.specs.Rules.{least, values_fault}
use Rattle.oil_model.proofs.rule.values_fault.Given as goal

abbrev pub invariant-loop-first : goal.invariant-loop-first
invariant-loop-first l = least l.fault (values_fault l.objects l.form (values_of l.level l.name l.rest)) ≡ values_fault l.objects l.form (values_of l.level l.name l.fn.attributes)

abbrev pub decreases-loop-first : goal.decreases-loop-first
decreases-loop-first l = length l.rest
