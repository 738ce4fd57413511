-- What holds of the run of each generated system by that schedule: it has no broken step, so it is played to its end.
use Rattle.std.specs.Prelude.{ℕ, ◌≤◌}
use Rattle.wcet_atomic_blocks.specs.Plants.{PlantData, IsPlantOf}
use Rattle.replay.specs.declared.response.PlayKind.{PlayKind}
use Rattle.replay.specs.Play.{PlaysUpTo}
use Rattle.demo_gen.specs.Demo.{the_image, the_system, the_timing}
use Rattle.demo_gen.specs.Draws.{tasks_of}
use Rattle.demo_runs.specs.Schedule.{the_schedule}

-- the plant of the system of a seed with so many tasks
pub record IsDemoPlant (seed count : ℕ) (plant : PlantData) : Type 0 where
  pub some : 1 ≤ count
  pub few : count ≤ 8
  pub plant_is : IsPlantOf (the_image (tasks_of seed count)) (the_system (tasks_of seed count)) (the_timing (tasks_of seed count)) plant

abbrev pub RunsHaveNoBrokenStep : Type 0
RunsHaveNoBrokenStep = (seed count : ℕ) (plant : PlantData) (fault : PlayKind) → IsDemoPlant seed count plant
    → PlaysUpTo plant.image plant.system plant.timing (the_schedule count) fault → ⊥
