use Rattle.std.proofs.Common.{◌≡◌, length}
use Rattle.oil_model.specs.Attributes.{block}
use Rattle.oil_model.proofs.attribute.block.Given as goal

abbrev pub invariant-loop-first : goal.invariant-loop-first
invariant-loop-first l = block l.name l.rest ≡ block l.name l.fn.attributes

abbrev pub decreases-loop-first : goal.decreases-loop-first
decreases-loop-first l = length l.rest
