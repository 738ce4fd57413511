use Rattle.std.proofs.Common.{arith, ap, ◌∙◌}
use Rattle.std.specs.List.{list_any}
use Rattle.std.proofs.lemmas.Grind.{common_steps}
use Rattle.flow_graph.proofs.NameSets.{name_inserted, named_more}
use Rattle.flow_graph.proofs.names.name_set.Goals as goal

pub loop-name-init : goal.loop-name-init
loop-name-init c = λ name. ap (list_any _) c.new-set.ensures.empty

pub loop-name-preserved : goal.loop-name-preserved
loop-name-preserved c = λ name.
    name_inserted (λ k. k.now) c.loop-name.set c.insert.new.self _ name c.in_ok-insert.ensures.keys
    ∙ named_more c.args.names.now c.loop-name.name-index c.name-item.result name _ c.loop-name-test.true c.name-item.is (c.loop-name.invariant name)

pub returns : goal.returns
returns c = λ name. grind (arith, common_steps, c.loop-name.invariant name)
