-- Sources, which arrive from outside: the alarms and the interrupt service routines (ISRs) of a system.
use Rattle.std.specs.Prelude.{ℕ, ◌+◌, ◌-◌, ◌*◌, nat_lt, nat_eq, ◌==◌, List, [], length, Bool, false, slice_get, if◌then◌else◌}
use Rattle.std.specs.List.{list_any}
use Rattle.std.specs.Option.{option_map_or}
use Rattle.oil_model.specs.declared.system.System.{System}
use Rattle.oil_model.specs.declared.system.Alarm.{Alarm}
use Rattle.osek_kernel.specs.declared.source.Source.{Source}
use Rattle.osek_kernel.specs.declared.source.Source.TheVariants as sources

-- Sources are numbered from 0: alarms by id, then ISRs by id.
abbrev pub source_count : System → ℕ
source_count system = length system.alarms + length system.isrs

abbrev pub number_of : System → Source → ℕ
number_of system (sources.Alarm a) = a
number_of system (sources.Isr i) = length system.alarms + i

abbrev pub source_at : System → ℕ → Source
source_at system n = if nat_lt n (length system.alarms) then sources.Alarm n else sources.Isr (n - length system.alarms)

abbrev pub alarm_modes : System → ℕ → List ℕ
alarm_modes system alarm = option_map_or (λ a. a.modes) (slice_get system.alarms alarm) []

-- an alarm arrives only in its modes, and an ISR in every mode
abbrev pub is_live : System → ℕ → Source → Bool
is_live system mode (sources.Alarm a) = list_any (nat_eq mode) (alarm_modes system a)
is_live system mode (sources.Isr i) = nat_lt i (length system.isrs)

abbrev pub alarm_is_one_shot : System → ℕ → Bool
alarm_is_one_shot system alarm = option_map_or (λ a. a.cycle == 0) (slice_get system.alarms alarm) false

-- an alarm that doesn't repeat arrives at most once
abbrev pub is_one_shot : System → Source → Bool
is_one_shot system (sources.Alarm a) = alarm_is_one_shot system a
is_one_shot system (sources.Isr i) = false

-- how far apart two arrivals of an alarm are at least, where its counter ticks once in so many cycles
abbrev pub alarm_distance : Alarm → ℕ → ℕ
alarm_distance alarm cycles_per_tick = alarm.cycle * cycles_per_tick
