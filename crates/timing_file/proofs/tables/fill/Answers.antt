use Rattle.std.proofs.Common.{arith}
use Rattle.std.proofs.lemmas.List.{length-map}
use Rattle.serde_json.specs.View.{view}
use Rattle.json_fields.specs.Objects.{texts}
use Rattle.timing_file.specs.Tables.{costs_at}
use Rattle.timing_file.proofs.Costing.{costs_fit, filled}
use Rattle.timing_file.proofs.tables.fill.Goals as goal

pub returns-clause-range : goal.returns-clause-range
returns-clause-range c =
    let keys = c.args.keys.now in
    λ fits. costs_fit c.args.default (view c.args.table.now) (texts keys) c.loop-place.costs fits
    (filled c.args.default (view c.args.table.now) keys c.loop-place.costs c.loop-place.place
    (costs_at c.args.default (view c.args.table.now) (texts keys))
    (omega arith) (omega (arith, length-map keys (λ k. k.now))) c.loop-place.invariant)
