use Rattle.std.proofs.Common.{◌≡◌, ◌<◌, ◌^◌, length}
use Rattle.oil_grammar.specs.Tokens.{value_after, with_room}
use Rattle.oil_grammar.proofs.token.value_of.Given as goal

abbrev pub invariant-loop-first : goal.invariant-loop-first
invariant-loop-first l = record {
  room : l.number < 2 ^ 64;
  value : with_room (value_after l.hexadecimal l.number l.rest) ≡ with_room (value_after l.hexadecimal 0 l.digits);
}

abbrev pub decreases-loop-first : goal.decreases-loop-first
decreases-loop-first l = length l.rest
