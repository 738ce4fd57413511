use Rattle.std.proofs.Common.{ap, ◌∙◌, ◌++◌, ◌-◌}
use Rattle.std.proofs.lemmas.Result.{on_ok_weaker}
use Rattle.oil_grammar.specs.Layout.{closing_lines}
use Rattle.oil_grammar.proofs.Lines.{attributes_step, attributes_done}
use Rattle.oil_grammar.proofs.writing.put_attributes.Goals as goal

pub loop-attribute-preserved : goal.loop-attribute-preserved
loop-attribute-preserved c =
    rw c.level_within-level.ensures
    (attributes_step c.loop-attribute.out.items c.put_closings.new.out.items c.put_attribute.new.out.items _ c.loop-attribute.level c.loop-attribute.attribute-index c.args.attributes.now c.attribute-item.result
    c.loop-attribute-test.true c.attribute-item.is
    (c.in_ok-put_closings.ensures ∙ ap (λ n. c.loop-attribute.out.items ++ closing_lines n c.loop-attribute.level) (c.saturating_sub.ensures ∙ ap (λ m. c.loop-attribute.level - m) c.from.ensures))
    c.in_ok-put_attribute.ensures c.loop-attribute.invariant)

pub returns : goal.returns
returns c =
    on_ok_weaker c.put_closings-2.result
    (λ is. attributes_done c.loop-attribute.out.items c.put_closings-2.new.out.items _ c.loop-attribute.level c.loop-attribute.attribute-index c.args.attributes.now c.loop-attribute-test.false is c.loop-attribute.invariant)
    c.put_closings-2.ensures
