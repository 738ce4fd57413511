-- Plants: an image, a system and a timing, with their code graph and its blocks.
use Rattle.std.specs.Prelude.{◌≡◌, ℕ, ◌<◌, ◌≤◌, true, List, length, slice_get, Option, Some, None, IsSomeAnd}
use Rattle.elf_image.specs.Image.{ImageData}
use Rattle.elf_image.specs.Image.{IsLawful as IsLawfulImage}
use Rattle.oil_model.specs.declared.system.System.{System}
use Rattle.oil_model.specs.System.{IsLawful as IsLawfulSystem}
use Rattle.timing_file.specs.declared.timing.Timing.{Timing}
use Rattle.timing_file.specs.Lawful.{IsLawful as IsLawfulTiming}
use Rattle.flow_graph.specs.declared.fault.CodeFault.{CodeFault}
use Rattle.flow_graph.specs.declared.fault.CodeFault.TheVariants.{Memory}
use Rattle.flow_graph.specs.declared.flow.Flow.{Flow}
use Rattle.flow_graph.specs.declared.node.Node.{Node}
use Rattle.flow_graph.specs.Faults.{is_entry_of}
use Rattle.flow_graph.specs.Graph.{entries_of, program_of}
use Rattle.flow_graph.specs.Judging.{IsGraph, IsFault, early_fault}
use Rattle.wcet_atomic_blocks.specs.declared.block.Blocks.{Blocks}
use Rattle.wcet_atomic_blocks.specs.Blocks.{IsCut}
use Rattle.wcet_atomic_blocks.specs.Cutting.{block_count}

pub record PlantData : Type 0 where
  pub image : ImageData
  pub system : System
  pub timing : Timing
  pub flow : Flow
  pub blocks : Blocks

-- ---- Entries

-- the node of that number is the one at which its context, the given one, begins
pub record IsEntryNode (addresses : List (Option ℕ)) (flow : Flow) (context number : ℕ) : Type 0 where
  pub node : Node
  pub stands : slice_get flow.nodes number ≡ Some node
  pub context_is : node.context ≡ context
  pub is_entry : is_entry_of addresses node ≡ true

-- the numbers of the nodes at which the contexts begin, where these are the addresses of their entries
pub record AreEntries (addresses : List (Option ℕ)) (flow : Flow) (entries : List ℕ) : Type 0 where
  pub count : length entries ≡ length addresses
  pub each : (context : ℕ) → context < length addresses → IsSomeAnd (slice_get entries context) (IsEntryNode addresses flow context)

-- ---- Plants

-- The flow is the code graph of the three, and they have no fault.
pub record IsGraphOf (image : ImageData) (system : System) (timing : Timing) (flow : Flow) : Type 0 where
  pub early : early_fault system timing (entries_of image system) ≡ None
  pub graph : IsGraph (program_of image system timing) flow

-- The blocks are those of the flow, whose contexts begin at their entries.
pub record HaveBlocks (image : ImageData) (system : System) (flow : Flow) (blocks : Blocks) : Type 0 where
  pub entries : List ℕ
  pub entered : AreEntries (entries_of image system) flow entries
  pub cut : IsCut flow entries blocks
  pub few : block_count flow entries ≤ 4095

pub record IsPlant (plant : PlantData) : Type 0 where
  pub image : IsLawfulImage plant.image
  pub system : IsLawfulSystem plant.system
  pub timing : IsLawfulTiming plant.timing
  pub graph : IsGraphOf plant.image plant.system plant.timing plant.flow
  pub blocks : HaveBlocks plant.image plant.system plant.flow plant.blocks

-- the plant of these three
pub record IsPlantOf (image : ImageData) (system : System) (timing : Timing) (plant : PlantData) : Type 0 where
  pub image_is : plant.image ≡ image
  pub system_is : plant.system ≡ system
  pub timing_is : plant.timing ≡ timing
  pub belong : IsPlant plant

-- the code has this fault
abbrev pub HaveFault : ImageData → System → Timing → CodeFault → Type 0
HaveFault image system timing Memory = ⊥
HaveFault image system timing fault =
    IsFault (program_of image system timing) (early_fault system timing (entries_of image system)) fault
