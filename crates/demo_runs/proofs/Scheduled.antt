-- The schedule of a generated system is lawful.
use Rattle.std.proofs.Common.{◌≡◌, ℕ, zero, suc, ◌+◌, ◌<◌, ◌≤◌, true, List, [], ◌∷◌, length, map, refl, arith}
use Rattle.std.specs.Prelude.{slice_get, nat_eq}
use Rattle.std.specs.List.{AllByRecursion, list_any, range_with_len}
use Rattle.std.specs.Option.{option_map_or}
use Rattle.std.proofs.lemmas.List.FromFn.{length-map-range_with_len}
use Rattle.oil_model.specs.declared.system.Alarm.{Alarm}
use Rattle.replay.specs.Lawful.{AreFrom, ArrivesIn, IsLawful}
use Rattle.demo_gen.specs.declared.task.DemoTask.{DemoTask}
use Rattle.demo_gen.specs.Demo.{system_alarm, the_system}
use Rattle.demo_gen.specs.Draws.{task_at, tasks_of}
use Rattle.demo_runs.specs.Schedule.{end_moment, arrival_of, the_schedule}

live_at : (tasks : List DemoTask) (alarm : ℕ) → alarm < length tasks
    → list_any (nat_eq 0) (option_map_or (λ (a : Alarm). a.modes) (slice_get (map system_alarm tasks) alarm) []) ≡ true
live_at [] alarm below = absurd (omega arith)
live_at (task ∷ tasks) zero below = refl
live_at (task ∷ tasks) (suc alarm) below = live_at tasks alarm (omega arith)

arrivals_lawful : (tasks : List DemoTask) (from count : ℕ) → from + count ≤ length tasks
    → AllByRecursion (ArrivesIn (the_system tasks) 0) (map arrival_of (range_with_len from count))
arrivals_lawful tasks from zero few = tt
arrivals_lawful tasks from (suc count) few = ((omega arith, live_at tasks from (omega arith)), arrivals_lawful tasks (from + 1) count (omega arith))

all_at_once : (from count : ℕ) → AreFrom 0 (map arrival_of (range_with_len from count))
all_at_once from zero = tt
all_at_once from (suc count) = (omega arith, all_at_once (from + 1) count)

pub schedule_lawful : (seed count : ℕ) → count ≤ 8 → IsLawful (the_system (tasks_of seed count)) (the_schedule count)
unfolding end_moment
schedule_lawful seed count few =
    let many = length-map-range_with_len (task_at seed count) 0 count in
    record {
      mode = omega arith;
      end = omega arith;
      few = omega (arith, length-map-range_with_len arrival_of 0 count);
      arrivals = arrivals_lawful (tasks_of seed count) 0 count (omega (arith, many));
      order = all_at_once 0 count;
    }
