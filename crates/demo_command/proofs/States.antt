-- The states of a generated system: they are closed and lawful for its plant, and there is one for each set of tasks.
use Rattle.std.proofs.Common.{◌≡◌, ℕ, ◌^◌, ◌≤◌, ◌==◌, Bool, true, List, length, refl, sym, ap, ◌∙◌, subst, arith}
use Rattle.std.specs.List.{list_all, range_with_len}
use Rattle.std.proofs.lemmas.Bool.{eqb-true}
use Rattle.std.proofs.lemmas.List.FromFn.{length-map-range_with_len}
use Rattle.wcet_atomic_blocks.specs.Plants.{PlantData}
use Rattle.abstract_sched.specs.declared.rules.StateRules.{StateRules}
use Rattle.abstract_sched.specs.Fits.{AreLawful}
use Rattle.scheduler_moves.specs.Closed.{IsClosed}
use Rattle.demo_gen.specs.declared.task.DemoTask.{DemoTask}
use Rattle.demo_gen.specs.Demo.{the_states}
use Rattle.demo_gen.specs.Draws.{task_at, tasks_of}
use Rattle.demo_gen.specs.Reading.{the_rules}
use Rattle.demo_gen.proofs.Below.{passing}
use Rattle.demo_gen.proofs.Ranges.{are_drawn}
use Rattle.demo_gen.proofs.Sets.{states_lawful}
use Rattle.demo_plants.proofs.Closing.{are_covered}
use Rattle.demo_runs.specs.Laws.{IsDemoPlant}
use Rattle.demo_command.specs.Working.Ready.{IsReady}

pub tasks_many : (seed count : ℕ) → length (tasks_of seed count) ≡ count
tasks_many seed count = length-map-range_with_len (task_at seed count) 0 count

pub plant_ready : (seed count : ℕ) (plant : PlantData) → IsDemoPlant seed count plant → IsReady plant (the_states count)
plant_ready seed count plant is =
    let tasks : List DemoTask = tasks_of seed count in
    let many : length tasks ≡ count = tasks_many seed count in
    let covered = are_covered tasks (are_drawn seed count is.some is.few) plant is.plant_is in
    record {
      closed = subst (λ (n : ℕ). IsClosed plant (the_states n)) many covered.closed;
      lawful = subst (λ (rules : StateRules). AreLawful rules (the_states count)) (ap the_rules (sym many) ∙ sym covered.rules)
          (states_lawful count is.few);
    }

is_power : ℕ → Bool
is_power count = length (the_states count) == 2 ^ count

all_powers : list_all is_power (range_with_len 0 9) ≡ true
unfolding is_power
all_powers = refl

pub states_many : (count : ℕ) → count ≤ 8 → length (the_states count) ≡ 2 ^ count
unfolding is_power
states_many count few = eqb-true _ _ (passing is_power 9 count all_powers (omega (arith, few)))
