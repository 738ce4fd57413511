use Rattle.std.proofs.Common.{◌∙◌, arith}
use Rattle.oil_grammar.proofs.GapSteps.{quote_end, quote_other, quote_open}
use Rattle.oil_grammar.proofs.gap.after_quote.Goals as goal

pub returns-then-first-eq34 : goal.returns-then-first-eq34
returns-then-first-eq34 c =
    (omega (arith, c.in-Some.ensures.cases.1), λ skips from. c.loop-first.invariant.passes skips from ∙ quote_end skips from _ _ _ c.in-Some.ensures.cases.0 c.if-first-eq34.true)

pub loop-first-preserved : goal.loop-first-preserved
loop-first-preserved c = record {
  shorter = omega (arith, c.in-Some.ensures.cases.1);
  passes = λ skips from. c.loop-first.invariant.passes skips from ∙ quote_other skips from _ _ _ c.in-Some.ensures.cases.0 c.if-first-eq34.false;
}

pub returns : goal.returns
returns c = λ skips from. c.loop-first.invariant.passes skips from ∙ quote_open skips from _ c.in_default.ensures.cases
