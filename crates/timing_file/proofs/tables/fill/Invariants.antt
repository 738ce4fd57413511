use Rattle.std.proofs.Common.{◌≡◌, take, drop, length}
use Rattle.serde_json.specs.View.{view}
use Rattle.json_fields.specs.Objects.{texts}
use Rattle.timing_file.specs.Tables.{costs_at}
use Rattle.timing_file.proofs.Costing.{before}
use Rattle.timing_file.proofs.tables.fill.Given as goal

abbrev pub invariant-loop-place : goal.invariant-loop-place
invariant-loop-place l =
    before (take l.place l.costs) (costs_at l.default (view l.table) (texts (drop l.place l.keys)))
    ≡ costs_at l.default (view l.table) (texts l.keys)
