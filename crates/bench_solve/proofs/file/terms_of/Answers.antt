use Rattle.bench_solve.proofs.TermLemmas.{rising_terms}
use Rattle.bench_solve.proofs.file.terms_of.Goals as goal

pub returns-then-columns_rise-clause-terms : goal.returns-then-columns_rise-clause-terms
returns-then-columns_rise-clause-terms c =
    rising_terms c.args.columns c.in_ok-terms.terms c.in_ok-terms.ensures.each (cc (c.columns_rise.ensures, c.if-columns_rise.true, c.as_slice.ensures))
