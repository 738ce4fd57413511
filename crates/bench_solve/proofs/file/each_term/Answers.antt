use Rattle.std.proofs.Common.{sym, ap, arith}
use Rattle.std.specs.Prelude.{ok_or}
use Rattle.std.proofs.lemmas.List.Elements.{All-push}
use Rattle.json_fields.proofs.Loops.{goes_on, stops_at, ends}
use Rattle.listed.specs.declared.fault.Fault.TheVariants.{Kind}
use Rattle.whole_rows.specs.Terms.{IsTerm}
use Rattle.bench_solve.specs.declared.file.RowsKind.TheVariants.{Shape}
use Rattle.bench_solve.specs.RowsFile.{term_at}
use Rattle.bench_solve.proofs.file.each_term.Goals as goal

pub returns-in-None-clause-answer : goal.returns-in-None-clause-answer
returns-in-None-clause-answer c =
    stops_at (λ n. term_at c.args.columns) c.loop-value.terms c.args.values.now c.loop-value.value-index c.value-item.result _ (Kind Shape) (omega arith) c.value-item.is (ap (λ o. ok_or o Shape) (sym c.in-None.ensures.answer)) c.loop-value.invariant.1

pub loop-value-preserved : goal.loop-value-preserved
loop-value-preserved c =
    rw c.in_ok-push-in-Some.ensures.ok (
      All-push (IsTerm c.args.columns) c.loop-value.terms c.in-Some.term c.loop-value.invariant.0 c.in-Some.ensures.term,
      goes_on (λ n. term_at c.args.columns) c.loop-value.terms c.args.values.now c.loop-value.value-index c.value-item.result c.in-Some.term _ (omega arith) c.value-item.is (ap (λ o. ok_or o Shape) (sym c.in-Some.ensures.answer)) c.loop-value.invariant.1,
    )

pub returns-clause-answer : goal.returns-clause-answer
returns-clause-answer c = ends (λ n. term_at c.args.columns) c.loop-value.terms c.args.values.now c.loop-value.value-index _ (omega arith) c.loop-value.invariant.1
