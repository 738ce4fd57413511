-- What `plant` answers.
use Rattle.std.specs.Prelude.{◌≡◌, ℕ, ◌<◌, List, Result, Ok, Err}
use Rattle.elf_image.specs.Image.{ImageData}
use Rattle.oil_model.specs.declared.system.System.{System}
use Rattle.timing_file.specs.declared.timing.Timing.{Timing}
use Rattle.flow_graph.specs.declared.flow.Flow.{Flow}
use Rattle.flow_graph.specs.Graph.{entries_of}
use Rattle.wcet_atomic_blocks.specs.declared.block.Blocks.{Blocks}
use Rattle.wcet_atomic_blocks.specs.declared.fault.BlockFault.TheVariants as blocks
use Rattle.wcet_atomic_blocks.specs.declared.fault.PlantFault.{PlantFault}
use Rattle.wcet_atomic_blocks.specs.declared.fault.PlantFault.TheVariants.{Code, Block, Memory}
use Rattle.wcet_atomic_blocks.specs.Cutting.{block_count}
use Rattle.wcet_atomic_blocks.specs.Plants.{PlantData, AreEntries, IsGraphOf, HaveBlocks, HaveFault, IsPlantOf}

-- the flow has more than 4,095 blocks, this number of them
pub record HasMany (image : ImageData) (system : System) (flow : Flow) (count : ℕ) : Type 0 where
  pub entries : List ℕ
  pub entered : AreEntries (entries_of image system) flow entries
  pub count_is : count ≡ block_count flow entries
  pub many : 4095 < count

-- The blocks of a flow, or their number where there are too many. Want of memory alone is free.
abbrev pub AnswersBlocks : ImageData → System → Flow → Result Blocks PlantFault → Type 0
AnswersBlocks image system flow (Ok cut) = HaveBlocks image system flow cut
AnswersBlocks image system flow (Err Memory) = Unit {0}
AnswersBlocks image system flow (Err (Block (blocks.Limit count))) = HasMany image system flow count
AnswersBlocks image system flow (Err fault) = ⊥

-- the same of the plant with that flow
pub record IsPlantWith (image : ImageData) (system : System) (timing : Timing) (flow : Flow) (plant : PlantData) : Type 0 where
  pub of : IsPlantOf image system timing plant
  pub flow_is : plant.flow ≡ flow

abbrev pub AnswersFlow : ImageData → System → Timing → Flow → Result PlantData PlantFault → Type 0
AnswersFlow image system timing flow (Ok plant) = IsPlantWith image system timing flow plant
AnswersFlow image system timing flow (Err Memory) = Unit {0}
AnswersFlow image system timing flow (Err (Block (blocks.Limit count))) = HasMany image system flow count
AnswersFlow image system timing flow (Err fault) = ⊥

-- the code graph of the three has more than 4,095 blocks, this number of them
pub record HaveMany (image : ImageData) (system : System) (timing : Timing) (count : ℕ) : Type 0 where
  pub flow : Flow
  pub graph : IsGraphOf image system timing flow
  pub many : HasMany image system flow count

-- The plant of the three; a fault of their code, or the number of blocks where there are too many.
abbrev pub IsAnswer : ImageData → System → Timing → Result PlantData PlantFault → Type 0
IsAnswer image system timing (Ok plant) = IsPlantOf image system timing plant
IsAnswer image system timing (Err Memory) = Unit {0}
IsAnswer image system timing (Err (Code fault)) = HaveFault image system timing fault
IsAnswer image system timing (Err (Block (blocks.Limit count))) = HaveMany image system timing count
IsAnswer image system timing (Err (Block blocks.Memory)) = ⊥
