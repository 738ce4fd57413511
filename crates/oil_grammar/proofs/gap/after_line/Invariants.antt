use Rattle.std.proofs.Common.{◌≡◌, ◌≤◌, Bool, length}
use Rattle.oil_grammar.specs.Tokens.{after_gap, line}
use Rattle.oil_grammar.proofs.gap.after_line.Given as goal

abbrev pub invariant-loop-first : goal.invariant-loop-first
invariant-loop-first l = record { shorter : length l.rest ≤ length l.fn.bytes; passes : (skips : Bool) → after_gap skips line l.fn.bytes ≡ after_gap skips line l.rest }

abbrev pub decreases-loop-first : goal.decreases-loop-first
decreases-loop-first l = length l.rest
