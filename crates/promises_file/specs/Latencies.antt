-- What is promised: for a source its latency, the longest that an arrival of it stays pending, in cycles.
use Rattle.std.specs.Prelude.{ℕ, List, codes, Option, Some, None, option_map, option_and_then, slice_get}
use Rattle.oil_model.specs.declared.system.System.{System}
use Rattle.osek_kernel.specs.declared.source.Source.{Source}
use Rattle.osek_kernel.specs.declared.source.Source.TheVariants as sources
use Rattle.timing_file.specs.declared.timing.NamedNumber.{NamedNumber}
use Rattle.timing_file.specs.Names.{number_named}
use Rattle.promises_file.specs.declared.promises.Promises.{Promises}

abbrev pub source_name : System → Source → Option (List ℕ)
source_name system (sources.Alarm a) = option_map (λ alarm. alarm.name) (slice_get system.alarms a)
source_name system (sources.Isr i) = option_map (λ isr. isr.name) (slice_get system.isrs i)

-- the first where there is one, else the second
abbrev pub or_else : Option ℕ → Option ℕ → Option ℕ
or_else (Some n) other = Some n
or_else None other = other

-- the number at the name, else the one at `default`
abbrev pub latency_named : List NamedNumber → List ℕ → Option ℕ
latency_named latencies name = or_else (number_named latencies name) (number_named latencies (codes "default"))

-- none where nothing is promised of the source
abbrev pub latency_of : System → Promises → Source → Option ℕ
latency_of system promises source = option_and_then (latency_named promises.latencies) (source_name system source)
