use Rattle.std.proofs.Common.{◌≡◌, ◌∙◌, sym, ap, subst}
use Rattle.oil_grammar.specs.Grammar.{IsTextOf}
use Rattle.oil_model.specs.Meaning as meaning
use Rattle.demo_gen.specs.Demo.{the_tree}
use Rattle.demo_plants.specs.Working.Sources.{tasks_in}
use Rattle.demo_plants.proofs.reading.system_of.Goals as goal

pub modelled-requires-clause-sound : goal.modelled-requires-clause-sound
modelled-requires-clause-sound c =
    let text : IsTextOf c.in_ok-tree.tree c.args.source.now.texts.oil = subst (IsTextOf c.in_ok-tree.tree) c.as_slice.ensures c.in_ok-tree.ensures in
    let same : c.in_ok-tree.tree ≡ the_tree (tasks_in c.args.source.now) = c.one_tree.ensures _ _ _ text c.requires.read.tree in
    rw same c.requires.read.system.sound

pub returns-clause-is : goal.returns-clause-is
returns-clause-is c =
    let text : IsTextOf c.in_ok-tree.tree c.args.source.now.texts.oil = subst (IsTextOf c.in_ok-tree.tree) c.as_slice.ensures c.in_ok-tree.ensures in
    let same : c.in_ok-tree.tree ≡ the_tree (tasks_in c.args.source.now) = c.one_tree.ensures _ _ _ text c.requires.read.tree in
    c.in_ok-system.ensures.is.same ∙ (ap meaning.system_of same ∙ sym c.requires.read.system.same)
