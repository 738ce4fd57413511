use Rattle.std.proofs.Common.{◌≡◌, ◌≤◌, ℕ, List, Bool, length}
use Rattle.oil_grammar.specs.Tokens.{after_gap, quoted}
use Rattle.oil_grammar.proofs.gap.after_quote.Given as goal

abbrev pub invariant-loop-first : goal.invariant-loop-first
invariant-loop-first l = record { shorter : length l.rest ≤ length l.fn.bytes; passes : (skips : Bool) (from : List ℕ) → after_gap skips (quoted from) l.fn.bytes ≡ after_gap skips (quoted from) l.rest }

abbrev pub decreases-loop-first : goal.decreases-loop-first
decreases-loop-first l = length l.rest
