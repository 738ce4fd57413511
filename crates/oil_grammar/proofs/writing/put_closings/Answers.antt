use Rattle.std.proofs.Common.{ap, ◌∙◌, ◌++◌}
use Rattle.oil_grammar.specs.Layout.{closing_line}
use Rattle.oil_grammar.proofs.Lines.{closings_step, closings_done}
use Rattle.oil_grammar.proofs.writing.put_closings.Goals as goal

pub loop-ended-preserved : goal.loop-ended-preserved
loop-ended-preserved c =
    closings_step c.loop-ended.out.items c.put_closing.new.out.items _ c.loop-ended.ended c.args.count c.args.level c.loop-ended-test.true
    (c.in_ok-put_closing.ensures ∙ ap (λ l. c.loop-ended.out.items ++ closing_line l) c.saturating_sub.ensures) c.loop-ended.invariant

pub returns : goal.returns
returns c = closings_done c.loop-ended.out.items _ c.loop-ended.ended c.args.count c.args.level c.loop-ended-test.false c.loop-ended.invariant
