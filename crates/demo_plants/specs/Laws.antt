-- What holds of each generated system: it has a plant, and its list of states is closed.
use Rattle.std.specs.Prelude.{◌≡◌, ℕ, ◌≤◌, List, length}
use Rattle.elf_image.specs.Image.{ImageData}
use Rattle.oil_model.specs.declared.system.System.{System}
use Rattle.timing_file.specs.declared.timing.Timing.{Timing}
use Rattle.flow_graph.specs.declared.fault.CodeFault.{CodeFault}
use Rattle.wcet_atomic_blocks.specs.Planting.{HaveMany}
use Rattle.wcet_atomic_blocks.specs.Plants.{PlantData, IsPlantOf, HaveFault}
use Rattle.scheduler_moves.specs.Closed.{IsClosed}
use Rattle.scheduler_moves.specs.Moves.{rules_of}
use Rattle.demo_gen.specs.declared.task.DemoTask.{DemoTask}
use Rattle.demo_gen.specs.Demo.{the_image, the_system, the_timing, the_states}
use Rattle.demo_gen.specs.Draws.{tasks_of}
use Rattle.demo_gen.specs.Reading.{the_rules}

-- The code of the three has no fault, and they don't have too many blocks: so they have a plant.
pub record HavePlant (image : ImageData) (system : System) (timing : Timing) : Type 0 where
  pub faultless : (fault : CodeFault) → HaveFault image system timing fault → ⊥
  pub few : (count : ℕ) → HaveMany image system timing count → ⊥

abbrev pub HasPlant : List DemoTask → Type 0
HasPlant tasks = HavePlant (the_image tasks) (the_system tasks) (the_timing tasks)

-- The states of the tasks are judged by their own rules, and are closed for the plant.
pub record IsCovered (tasks : List DemoTask) (plant : PlantData) : Type 0 where
  pub rules : rules_of plant ≡ the_rules (length tasks)
  pub closed : IsClosed plant (the_states (length tasks))

abbrev pub AreCovered : List DemoTask → Type 0
AreCovered tasks = (plant : PlantData) → IsPlantOf (the_image tasks) (the_system tasks) (the_timing tasks) plant → IsCovered tasks plant

-- Each system of 1 to 8 tasks has a plant.
unfoldable pub SystemsHavePlants : Type 0
SystemsHavePlants = (seed count : ℕ) → 1 ≤ count → count ≤ 8 → HasPlant (tasks_of seed count)

-- The states of each are closed for its plant.
unfoldable pub StatesAreClosed : Type 0
StatesAreClosed = (seed count : ℕ) → 1 ≤ count → count ≤ 8 → AreCovered (tasks_of seed count)
