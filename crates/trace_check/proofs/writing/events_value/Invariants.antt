use Rattle.std.proofs.Common.{◌≡◌, map, take}
use Rattle.serde_json.specs.View.{view}
use Rattle.trace_check.specs.Text.{event_data}
use Rattle.trace_check.proofs.writing.events_value.Given as goal

abbrev pub invariant-loop-event : goal.invariant-loop-event
invariant-loop-event l = map view l.values.items ≡ map (event_data l.system) (take l.event-index l.events)
