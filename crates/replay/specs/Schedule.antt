-- The schedule that a JSON value is, or the first kind of fault that it has, in the order in which the kinds are
-- listed, each judged over the whole value.
use Rattle.std.specs.Prelude.{ℕ, List, [], ◌∷◌, Bool, true, false, ◌&&◌, bytes_eq, codes, length, nat_le, ok_or, option_map, position, if◌then◌else◌, Option, Some, None, Result, Ok, Err}
use Rattle.std.specs.Option.{option_map_or}
use Rattle.listed.specs.Lists.{all_of}
use Rattle.listed.specs.Steps.{◌>>=◌}
use Rattle.listed.specs.Steps.Options as options
use Rattle.serde_json.specs.Data.{Data}
use Rattle.serde_json.specs.Find.{get}
use Rattle.json_fields.specs.Numbers.{whole_in}
use Rattle.json_fields.specs.Objects.{text_at}
use Rattle.oil_model.specs.declared.system.System.{System}
use Rattle.oil_model.specs.declared.system.Alarm.{Alarm}
use Rattle.oil_model.specs.declared.system.Isr.{Isr}
use Rattle.osek_kernel.specs.declared.source.Source.{Source}
use Rattle.osek_kernel.specs.declared.source.Source.TheVariants as sources
use Rattle.osek_kernel.specs.Sources.{is_live}
use Rattle.replay.specs.declared.fault.ScheduleKind.{ScheduleKind}
use Rattle.replay.specs.declared.fault.ScheduleKind.TheVariants.{Shape, Range, Name}
use Rattle.replay.specs.declared.schedule.Arrival.{Arrival}
use Rattle.replay.specs.declared.schedule.Schedule.{Schedule}
use Rattle.replay.specs.Form.{schedule_parts}

-- ---- Moments, in cycles

-- the last moment at which a run may end, and at which a source may arrive
abbrev pub last_moment : ℕ
last_moment = 16777216

-- the moment of an arrival, if it isn't below this one
abbrev pub moment_from : ℕ → Data → Option ℕ
moment_from low d = options.◌>>=◌ (get (codes "at") d) (whole_in low last_moment)

-- each arrival has a moment, and none below the moment of the one before it
abbrev pub have_moments_from : ℕ → List Data → Bool
have_moments_from low [] = true
have_moments_from low (d ∷ ds) = option_map_or (λ moment. have_moments_from moment ds) (moment_from low d) false

abbrev pub are_in_range : List Data → Bool
are_in_range arrivals = nat_le (length arrivals) 65536 && have_moments_from 0 arrivals

-- ---- Names

abbrev pub mode_in : List (List ℕ) → List ℕ → Option ℕ
mode_in modes name = position (λ mode. bytes_eq mode name) modes

abbrev pub alarm_in : List Alarm → List ℕ → Option ℕ
alarm_in alarms name = position (λ alarm. bytes_eq alarm.name name) alarms

abbrev pub isr_in : List Isr → List ℕ → Option ℕ
isr_in isrs name = position (λ isr. bytes_eq isr.name name) isrs

-- the alarm of this name, or else the ISR: no two have one name
abbrev pub source_named : System → List ℕ → Option Source
source_named system name =
    option_map_or (λ alarm. Some (sources.Alarm alarm)) (alarm_in system.alarms name) (option_map sources.Isr (isr_in system.isrs name))

-- the source of this name, if it is live in the mode
abbrev pub live_source : System → ℕ → List ℕ → Option Source
live_source system mode name = options.◌>>=◌ (source_named system name) (λ source. if is_live system mode source then Some source else None)

-- ---- Schedules

unfoldable pub arrival_in : System → ℕ → Data → Result Arrival ScheduleKind
arrival_in system mode d = do
  at ← ok_or (moment_from 0 d) Range
  source ← ok_or (options.◌>>=◌ (text_at (codes "source") d) (live_source system mode)) Name
  Ok (record { at = at; source = source })

unfoldable pub schedule_in : System → Data → Result Schedule ScheduleKind
schedule_in system d = do
  parts ← ok_or (schedule_parts d) Shape
  end ← ok_or (whole_in 1 last_moment parts.end) Range
  arrivals ← if are_in_range parts.arrivals then Ok parts.arrivals else Err Range
  mode ← ok_or (mode_in system.modes parts.mode) Name
  arrivals ← all_of (arrival_in system mode) arrivals
  Ok (record { mode = mode; end = end; arrivals = arrivals })
