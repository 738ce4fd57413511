use Rattle.std.proofs.Common.{◌+◌, ◌≤◌, length}
use Rattle.oil_grammar.specs.Working.Reading.{depth_of}
use Rattle.oil_grammar.specs.Working.Advancing.{Reached}
use Rattle.oil_grammar.proofs.reading.read_oil.Given as goal

abbrev pub invariant-tokens : goal.invariant-tokens
invariant-tokens l = record {
  depth : depth_of l.state + length l.rest ≤ length l.fn.bytes;
  reached : Reached l.fn.bytes l.state l.rest;
}

abbrev pub decreases-tokens : goal.decreases-tokens
decreases-tokens l = length l.rest
