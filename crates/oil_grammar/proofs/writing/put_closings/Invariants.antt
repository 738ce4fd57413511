use Rattle.std.proofs.Common.{◌≡◌, ◌++◌, ◌-◌}
use Rattle.oil_grammar.specs.Layout.{closing_lines}
use Rattle.oil_grammar.proofs.writing.put_closings.Given as goal

-- what is written, with the ends that are left, is all of them
abbrev pub invariant-loop-ended : goal.invariant-loop-ended
invariant-loop-ended l = l.out.items ++ closing_lines (l.count - l.ended) (l.level - l.ended) ≡ l.initial.out.items ++ closing_lines l.count l.level
