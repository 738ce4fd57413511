-- Texts that their readers take.
use Rattle.std.specs.Prelude.{◌≡◌, ℕ, true, List, Ok}
use Rattle.json_fields.specs.Files.{IsGiven}
use Rattle.timing_file.specs.declared.fault.TimingKind.TheVariants as timing_kinds
use Rattle.timing_file.specs.declared.timing.Timing.{Timing}
use Rattle.timing_file.specs.Timing.{timing_in}
use Rattle.wcet_atomic_blocks.specs.Plants.{PlantData, IsPlantOf}
use Rattle.abstract_sched.specs.declared.states.AbsState.{AbsState}
use Rattle.scheduler_moves.specs.Moves.{rules_of}
use Rattle.certificate.specs.declared.fault.StatesKind.TheVariants as states_kinds
use Rattle.certificate.specs.States.{states_in}
use Rattle.listed.specs.Lists.{differ}
use Rattle.abstract_sched.specs.States.{same_state}
use Rattle.scheduler_moves.specs.Closed.{IsClosed}
use Rattle.demo_gen.specs.Demo.{the_image, the_system, the_timing, the_states}
use Rattle.demo_gen.specs.Draws.{tasks_of}
use Rattle.demo_plants.specs.declared.reading.Generated.{Generated}

-- some timing has the text
abbrev pub IsTimingText : List ℕ → Type 0
IsTimingText text = (timing : Timing) × IsGiven timing_kinds.Json timing_in text (Ok timing)

-- some states have the text, by the rules of the plant
abbrev pub AreStatesText : PlantData → List ℕ → Type 0
AreStatesText plant text = (states : List AbsState) × IsGiven states_kinds.Json (states_in (rules_of plant)) text (Ok states)

-- What is read of the texts of a seed's system with so many tasks: its plant, and its states, which are closed.
pub record IsGenerated (seed count : ℕ) (generated : Generated) : Type 0 where
  pub plant : IsPlantOf (the_image (tasks_of seed count)) (the_system (tasks_of seed count)) (the_timing (tasks_of seed count)) generated.plant
  pub states : generated.states ≡ the_states count
  pub closed : IsClosed generated.plant generated.states
  pub once : differ same_state generated.states ≡ true
