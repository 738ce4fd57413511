-- The schedule by which a generated system is played: each alarm arrives once, at the first moment, and nothing else does.
use Rattle.std.specs.Prelude.{ℕ, map}
use Rattle.std.specs.List.{range_with_len}
use Rattle.osek_kernel.specs.declared.source.Source.TheVariants as sources
use Rattle.replay.specs.declared.schedule.Arrival.{Arrival}
use Rattle.replay.specs.declared.schedule.Schedule.{Schedule}

-- the moment at which the run ends, in cycles
unfoldable pub end_moment : ℕ
end_moment = 16777216

-- the alarm of this number arrives
abbrev pub arrival_of : ℕ → Arrival
arrival_of alarm = record { at = 0; source = sources.Alarm alarm }

-- the schedule of a system of so many tasks, each of which has its alarm
abbrev pub the_schedule : ℕ → Schedule
the_schedule count = record { mode = 0; end = end_moment; arrivals = map arrival_of (range_with_len 0 count) }
