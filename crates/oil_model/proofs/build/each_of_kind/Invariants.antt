use Rattle.std.proofs.Common.{◌≡◌, ◌++◌, length}
use Rattle.oil_model.specs.Meaning.{made_of}
use Rattle.oil_model.proofs.build.each_of_kind.Given as goal

abbrev pub invariant-loop-first : goal.invariant-loop-first
invariant-loop-first g l = l.list ++ made_of g.T.Made.made l.kind l.objects l.rest ≡ made_of g.T.Made.made l.kind l.objects l.fn.objects

abbrev pub decreases-loop-first : goal.decreases-loop-first
decreases-loop-first g l = length l.rest
