use Rattle.std.proofs.Common.{◌≡◌, map}
use Rattle.std.specs.List.{range_with_len}
use Rattle.demo_runs.specs.Schedule.{arrival_of}
use Rattle.demo_runs.proofs.playing.schedule_of.Given as goal

abbrev pub invariant-loop-alarm : goal.invariant-loop-alarm
invariant-loop-alarm l = l.arrivals ≡ map arrival_of (range_with_len 0 l.alarm)
