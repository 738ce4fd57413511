use Rattle.std.proofs.Common.{◌≡◌, map, drop}
use Rattle.serde_json.specs.View.{view}
use Rattle.listed.specs.Lists.{each_from}
use Rattle.json_fields.proofs.Loops.{with_front}
use Rattle.whole_rows.specs.Row.{AreInRange}
use Rattle.bench_solve.specs.RowsFile.{cost_in}
use Rattle.bench_solve.proofs.file.costs_of.Given as goal

abbrev pub invariant-loop-value : goal.invariant-loop-value
invariant-loop-value l = AreInRange l.costs × (with_front l.costs (each_from (λ n. cost_in) l.value-index (map view (drop l.value-index l.values))) ≡ each_from (λ n. cost_in) 0 (map view l.values))
