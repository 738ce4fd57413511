-- Plants as inputs: an OIL file, an image and a timing file, each read and judged before the next one is read, and then the
-- code that they have together.
use Rattle.std.specs.Prelude.{◌≡◌, ◌⊎◌, ℕ, List, Option, option_and_then, Result, Ok, Err}
use Rattle.elf_image.specs.Image.{ImageData}
use Rattle.elf_image.specs.Elf.{elf_of}
use Rattle.elf_image.specs.declared.fault.ElfKind.{ElfKind}
use Rattle.json_fields.specs.Files.{IsGiven}
use Rattle.oil_model.specs.declared.system.System.{System}
use Rattle.osek_kernel.specs.Contexts.{context_at, name_of}
use Rattle.timing_file.specs.declared.fault.TimingKind.{TimingKind}
use Rattle.timing_file.specs.declared.fault.TimingKind.TheVariants as timing_kinds
use Rattle.timing_file.specs.declared.timing.Timing.{Timing}
use Rattle.timing_file.specs.Timing.{timing_in}
use Rattle.flow_graph.specs.declared.fault.CodeFault.TheVariants.{At}
use Rattle.flow_graph.specs.declared.fault.CodeKind.{CodeKind}
use Rattle.wcet_atomic_blocks.specs.Plants.{PlantData, IsPlantOf, HaveFault}
use Rattle.wcet_atomic_blocks.specs.Planting.{HaveMany}
use Rattle.command_steps.specs.declared.halt.Refusal.{Refusal}
use Rattle.command_steps.specs.Steps.{Calls, Step, Judged, Then, File}
use Rattle.reports.specs.Code.{elf_refusal, timing_refusal, code_refusal, blocks_refusal}
use Rattle.inputs.specs.Inputs.{image_limit, OilTree, HasSystem}

-- in bytes
abbrev pub timing_limit : ℕ
timing_limit = 1048576

-- ---- the three files

abbrev pub OilSystem : {F : Type 0} → Calls F → List ℕ → Step F System
OilSystem calls name = Then (OilTree calls name) (λ tree. Judged (HasSystem tree))

abbrev pub HasImage : List ℕ → Result ImageData Refusal → Type 0
HasImage bytes (Ok image) = elf_of bytes ≡ Ok image
HasImage bytes (Err refusal) = (kind : ElfKind) × (elf_of bytes ≡ Err kind) × (refusal ≡ elf_refusal kind)

abbrev pub ElfImage : {F : Type 0} → Calls F → List ℕ → Step F ImageData
ElfImage calls name = File calls name image_limit HasImage

abbrev pub HasTiming : List ℕ → Result Timing Refusal → Type 0
HasTiming bytes (Ok timing) = IsGiven timing_kinds.Json timing_in bytes (Ok timing)
HasTiming bytes (Err refusal) =
    (kind : TimingKind) × IsGiven timing_kinds.Json timing_in bytes (Err kind) × (refusal ≡ timing_refusal kind)

abbrev pub TimingFile : {F : Type 0} → Calls F → List ℕ → Step F Timing
TimingFile calls name = File calls name timing_limit HasTiming

-- ---- their plant

-- the name of the context at a place among all contexts, if there is one
abbrev pub name_at : System → ℕ → Option (List ℕ)
name_at system context = name_of system (context_at system context)

abbrev pub fault_refusal : System → CodeKind → Option ℕ → Option ℕ → Refusal
fault_refusal system kind context address = code_refusal (option_and_then (name_at system) context) address kind

-- The code has a fault, and this is said of it.
pub record IsFaulty (image : ImageData) (system : System) (timing : Timing) (refusal : Refusal) : Type 0 where
  pub kind : CodeKind
  pub context : Option ℕ
  pub address : Option ℕ
  pub has : HaveFault image system timing (At kind context address)
  pub told : refusal ≡ fault_refusal system kind context address

-- The code has too many blocks, and this is said of them.
pub record IsTooLarge (image : ImageData) (system : System) (timing : Timing) (refusal : Refusal) : Type 0 where
  pub count : ℕ
  pub has : HaveMany image system timing count
  pub told : refusal ≡ blocks_refusal count

abbrev pub HasPlant : ImageData → System → Timing → Result PlantData Refusal → Type 0
HasPlant image system timing (Ok plant) = IsPlantOf image system timing plant
HasPlant image system timing (Err refusal) = IsFaulty image system timing refusal ⊎ IsTooLarge image system timing refusal

abbrev pub PlantWithTiming : {F : Type 0} → Calls F → List ℕ → System → ImageData → Step F PlantData
PlantWithTiming calls timing system image = Then (TimingFile calls timing) (λ t. Judged (HasPlant image system t))

abbrev pub PlantWithImage : {F : Type 0} → Calls F → List ℕ → List ℕ → System → Step F PlantData
PlantWithImage calls elf timing system = Then (ElfImage calls elf) (PlantWithTiming calls timing system)

abbrev pub PlantOf : {F : Type 0} → Calls F → List ℕ → List ℕ → List ℕ → Step F PlantData
PlantOf calls oil elf timing = Then (OilSystem calls oil) (PlantWithImage calls elf timing)
