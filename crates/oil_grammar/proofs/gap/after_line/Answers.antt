use Rattle.std.proofs.Common.{◌∙◌, arith}
use Rattle.oil_grammar.proofs.GapSteps.{line_newline, line_other, line_end}
use Rattle.oil_grammar.proofs.gap.after_line.Goals as goal

pub returns-then-first-eq10-clause-passes : goal.returns-then-first-eq10-clause-passes
returns-then-first-eq10-clause-passes c = λ skips. c.loop-first.invariant.passes skips ∙ line_newline skips _ _ _ c.in-Some.ensures.cases.0 c.if-first-eq10.true

pub loop-first-preserved : goal.loop-first-preserved
loop-first-preserved c = record {
  shorter = omega (arith, c.in-Some.ensures.cases.1);
  passes = λ skips. c.loop-first.invariant.passes skips ∙ line_other skips _ _ _ c.in-Some.ensures.cases.0 c.if-first-eq10.false;
}

pub returns-clause-passes : goal.returns-clause-passes
returns-clause-passes c = λ skips. c.loop-first.invariant.passes skips ∙ line_end skips _ c.in_default.ensures.cases
