-- What the answers of `show oil`, `show code` and `replay` mean.
use Rattle.std.specs.Prelude.{◌≡◌, List, ℕ, None, Ok}
use Rattle.oil_grammar.specs.declared.tree.Tree.{Tree}
use Rattle.oil_grammar.specs.Grammar.{IsTextOf}
use Rattle.oil_grammar.specs.Layout.{layout_of}
use Rattle.oil_model.specs.Meaning.{model_fault_of}
use Rattle.json_fields.specs.Files.{IsGiven}
use Rattle.wcet_atomic_blocks.specs.Plants.{PlantData, IsPlantOf}
use Rattle.replay.specs.declared.fault.ScheduleKind.TheVariants as schedule_kinds
use Rattle.replay.specs.declared.schedule.Schedule.{Schedule}
use Rattle.replay.specs.Schedule.{schedule_in}
use Rattle.inputs.specs.Meaning.{AreDeclared}
use Rattle.show_commands.specs.Replay.{SaysResponses}
use Rattle.show_commands.specs.ShowCode.{code_text}

-- The text is the layout of the tree that the bytes have, and the tree stands for a system.
pub record ShowsLayout (bytes text : List ℕ) : Type 0 where
  pub tree : Tree
  pub is_text : IsTextOf tree bytes
  pub sound : model_fault_of tree ≡ None
  pub layout : text ≡ layout_of tree

-- The files are a system, its image and its timing, and the text has the numbers of the code graph that they have together.
pub record ShowsCode (text oil elf timing : List ℕ) : Type 0 where
  pub declared : AreDeclared oil elf timing
  pub plant : PlantData
  pub plant_is : IsPlantOf declared.image declared.system declared.times plant
  pub shown : text ≡ code_text plant

-- The files are a system, its image and its timing, and a schedule, and the text has the responses of the run that the schedule plays. The run
-- keeps what is declared, so every bound of a task holds of them.
pub record ReplaysSchedule (schedule text oil elf timing : List ℕ) : Type 0 where
  pub declared : AreDeclared oil elf timing
  pub plant : PlantData
  pub plant_is : IsPlantOf declared.image declared.system declared.times plant
  pub listed : Schedule
  pub listed_is : IsGiven schedule_kinds.Json (schedule_in plant.system) schedule (Ok listed)
  pub says : SaysResponses plant listed text
