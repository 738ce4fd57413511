use Rattle.std.proofs.Common.{subst}
use Rattle.std.specs.Prelude.{IfOk}
use Rattle.oil_grammar.specs.Grammar.{IsTextOf, IsWellFormed}
use Rattle.oil_grammar.specs.declared.tree.Tree.{Tree}
use Rattle.demo_gen.proofs.Ranges.{all_early, all_written}
use Rattle.demo_gen.proofs.TreeText.{well_formed}
use Rattle.demo_gen.proofs.writing.oil_text.Goals as goal

pub tree_of-requires : goal.tree_of-requires
tree_of-requires c = all_early c.args.tasks.now c.requires

pub returns-clause-again : goal.returns-clause-again
returns-clause-again c =
    subst (λ (tree : Tree). IsWellFormed tree → IfOk c.write_oil.result (λ text. IsTextOf tree text)) c.in_ok-tree.ensures c.write_oil.ensures.again
    (well_formed c.args.tasks.now (all_written c.args.tasks.now c.requires))
