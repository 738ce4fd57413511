use Rattle.std.proofs.Common.{◌∙◌, arith, sym, length-drop}
use Rattle.oil_grammar.proofs.GapSteps.{comment_end, comment_other, comment_open}
use Rattle.oil_grammar.proofs.gap.after_comment.Goals as goal

pub returns-then-ends_comment : goal.returns-then-ends_comment
returns-then-ends_comment c =
    rw c.behind_first.ensures (
      omega (arith, c.in-Some.ensures.cases.1, length-drop 1 c.in-Some.tail.now),
      λ skips from. c.loop-first.invariant.passes skips from ∙ comment_end skips from _ _ _ c.in-Some.ensures.cases.0 (sym c.if-ends_comment.ensures),
    )

pub loop-first-preserved : goal.loop-first-preserved
loop-first-preserved c = record {
  shorter = omega (arith, c.in-Some.ensures.cases.1);
  passes = λ skips from. c.loop-first.invariant.passes skips from ∙ comment_other skips from _ _ _ c.in-Some.ensures.cases.0 (sym c.if-ends_comment.ensures);
}

pub returns : goal.returns
returns c = λ skips from. c.loop-first.invariant.passes skips from ∙ comment_open skips from _ c.in_default.ensures.cases
