-- The texts of a seed's system.
use Rattle.std.specs.Prelude.{ℕ, ◌≤◌, List}
use Rattle.demo_gen.specs.declared.task.DemoTask.{DemoTask}
use Rattle.demo_gen.specs.Draws.{tasks_of}
use Rattle.demo_gen.specs.Reading.{AreRead}
use Rattle.demo_plants.specs.declared.reading.Source.{Source}

abbrev pub tasks_in : Source → List DemoTask
tasks_in source = tasks_of source.seed source.count

pub record IsSource (source : Source) : Type 0 where
  pub some : 1 ≤ source.count
  pub few : source.count ≤ 8
  pub read : AreRead (tasks_in source) source.texts
