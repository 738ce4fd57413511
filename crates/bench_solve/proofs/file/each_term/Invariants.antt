use Rattle.std.proofs.Common.{◌≡◌, map, drop}
use Rattle.std.specs.Prelude.{All}
use Rattle.serde_json.specs.View.{view}
use Rattle.listed.specs.Lists.{each_from}
use Rattle.json_fields.proofs.Loops.{with_front}
use Rattle.whole_rows.specs.Terms.{IsTerm}
use Rattle.bench_solve.specs.RowsFile.{term_at}
use Rattle.bench_solve.proofs.file.each_term.Given as goal

abbrev pub invariant-loop-value : goal.invariant-loop-value
invariant-loop-value l = All (IsTerm l.columns) l.terms × (with_front l.terms (each_from (λ n. term_at l.columns) l.value-index (map view (drop l.value-index l.values))) ≡ each_from (λ n. term_at l.columns) 0 (map view l.values))
