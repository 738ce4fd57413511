use mir.Val.{SFits}
use Rattle.std.specs.Int.{w128}
use Rattle.std.proofs.lemmas.Int.{to_z-of_z}
use Rattle.std.proofs.Common.{sym, ap, arith}
use Rattle.std.specs.Prelude.{ok_or}
use Rattle.std.proofs.lemmas.List.Elements.{All-push}
use Rattle.json_fields.proofs.Loops.{goes_on, stops_at, ends}
use Rattle.listed.specs.declared.fault.Fault.TheVariants.{Kind}
use Rattle.whole_rows.proofs.Combinations.{fits_from_range}
use Rattle.whole_rows.specs.Row.{IsInRange}
use Rattle.bench_solve.specs.declared.file.RowsKind.TheVariants.{Shape}
use Rattle.bench_solve.specs.RowsFile.{cost_in}
use Rattle.bench_solve.proofs.file.costs_of.Goals as goal

pub returns-in-None : goal.returns-in-None
returns-in-None c =
    stops_at (λ n. cost_in) c.loop-value.costs c.args.values.now c.loop-value.value-index c.value-item.result _ (Kind Shape) (omega arith) c.value-item.is (ap (λ o. ok_or o Shape) (sym c.in-None.ensures.value)) c.loop-value.invariant.1

pub loop-value-preserved : goal.loop-value-preserved
loop-value-preserved c =
    let fits : SFits w128 c.in-Some.cost = fits_from_range c.in-Some.cost c.in-Some.ensures.in_range in
    rw (simp to_z-of_z at c.in_ok-push-in-Some.ensures.ok) (
      All-push IsInRange c.loop-value.costs c.in-Some.cost c.loop-value.invariant.0 c.in-Some.ensures.in_range,
      goes_on (λ n. cost_in) c.loop-value.costs c.args.values.now c.loop-value.value-index c.value-item.result c.in-Some.cost _ (omega arith) c.value-item.is (ap (λ o. ok_or o Shape) (sym c.in-Some.ensures.value)) c.loop-value.invariant.1,
    )

pub returns : goal.returns
returns c =
    rw c.from_vec.ensures (rw c.into_vec.ensures (ends (λ n. cost_in) c.loop-value.costs c.args.values.now c.loop-value.value-index _ (omega arith) c.loop-value.invariant.1))
