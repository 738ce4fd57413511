use Rattle.oil_grammar.proofs.OneFault.{either, not_both}
use Rattle.oil_grammar.proofs.laws.tree_or_fault.Goals as goal

pub returns-clause-either : goal.returns-clause-either
returns-clause-either c = either

pub returns-clause-not_both : goal.returns-clause-not_both
returns-clause-not_both c = not_both
