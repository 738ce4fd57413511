use Rattle.std.proofs.Common.{◌≡◌, length}
use Rattle.oil_grammar.specs.Tokens.{after_gap, between}
use Rattle.oil_grammar.proofs.gap.after_gap.Given as goal

abbrev pub invariant-loop-tail : goal.invariant-loop-tail
invariant-loop-tail l = after_gap l.skips between l.fn.bytes ≡ after_gap l.skips between l.rest

abbrev pub decreases-loop-tail : goal.decreases-loop-tail
decreases-loop-tail l = length l.rest
