use Rattle.std.proofs.Common.{sym, subst, ◌∙◌}
use Rattle.oil_grammar.specs.Grammar.{IsTextOf}
use Rattle.oil_grammar.proofs.Again.{text_again}
use Rattle.oil_grammar.proofs.writing.write_oil.Goals as goal

pub returns-clause-again : goal.returns-clause-again
returns-clause-again c = λ formed.
    subst (λ bytes. IsTextOf c.args.tree.now bytes) (sym (c.from_vec.ensures ∙ c.in_ok-out.ensures)) (text_again c.args.tree.now formed.0 formed.1)
