use Rattle.std.proofs.Common.{◌≡◌, length}
use Rattle.oil_model.specs.References.{internal_of}
use Rattle.oil_model.proofs.reference.internal_of.Given as goal

abbrev pub invariant-loop-first : goal.invariant-loop-first
invariant-loop-first l = internal_of l.objects l.rest ≡ internal_of l.objects l.fn.attributes

abbrev pub decreases-loop-first : goal.decreases-loop-first
decreases-loop-first l = length l.rest
