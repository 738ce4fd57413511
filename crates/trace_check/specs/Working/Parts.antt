-- The members of an event in code, by what they are.
use Rattle.std.specs.Prelude.{map}
use Rattle.serde_json.specs.View.{view}
use Rattle.trace_check.specs.declared.form.EventParts as code
use Rattle.trace_check.specs.declared.form.EventParts.TheVariants as parts
use Rattle.trace_check.specs.Form.{EventParts, Arrive, Take, Service}

abbrev pub parts_view : code.EventParts → EventParts
parts_view (parts.Arrive at source) = Arrive (view at.now) source.now
parts_view (parts.Take start end source) = Take (view start.now) (view end.now) source.now
parts_view (parts.Service start end context sites address) = Service (view start.now) (view end.now) context.now (map view sites.now) (view address.now)
