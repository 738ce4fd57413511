-- What is analysed: a task of a system that an OIL file, an image and a timing file make, or the one task of a flat image.
use Rattle.std.specs.Prelude.{◌≡◌, ◌⊎◌, ℕ, List, [], ◌∷◌, codes, Some, None, Result, Ok, Err}
use Rattle.elf_image.specs.Image.{ImageData}
use Rattle.elf_image.specs.Flat.{flat_of}
use Rattle.elf_image.specs.declared.fault.ElfKind.{ElfKind}
use Rattle.oil_model.specs.declared.system.System.{System}
use Rattle.oil_model.specs.Answers.{task_named}
use Rattle.oil_model.specs.Lone.{the_lone_system}
use Rattle.timing_file.specs.declared.timing.Timing.{Timing}
use Rattle.timing_file.specs.Unit.{the_unit_timing}
use Rattle.wcet_atomic_blocks.specs.Plants.{IsPlantOf}
use Rattle.command_steps.specs.declared.halt.Refusal.{Refusal}
use Rattle.command_steps.specs.Steps.{Calls, Step, Judged, Then, File}
use Rattle.reports.specs.Code.{elf_refusal}
use Rattle.reports.specs.Refusals.{task_refusal}
use Rattle.inputs.specs.declared.subjects.Analysed.{Analysed}
use Rattle.inputs.specs.declared.subjects.Subject.{Subject}
use Rattle.inputs.specs.declared.subjects.Subject.TheVariants.{Lone, Named}
use Rattle.inputs.specs.Inputs.{image_limit}
use Rattle.inputs.specs.Plants.{HasPlant, OilSystem, ElfImage, TimingFile}

-- the name of the task
abbrev pub name_of : Subject → List ℕ
name_of (Lone image) = codes "T"
name_of (Named oil elf timing task) = task

-- the names of its files
abbrev pub subject_files : Subject → List (List ℕ)
subject_files (Lone image) = image ∷ []
subject_files (Named oil elf timing task) = oil ∷ elf ∷ timing ∷ []

-- ---- a task by its name

-- No task of the system has the name, or the three have no plant.
abbrev pub HasNoTask : ImageData → System → Timing → List ℕ → Refusal → Type 0
HasNoTask image system timing name refusal =
    ((task_named system name ≡ None) × (refusal ≡ task_refusal))
    ⊎ ((task : ℕ) × (task_named system name ≡ Some task) × HasPlant image system timing (Err refusal))

abbrev pub HasTask : ImageData → System → List ℕ → Timing → Result Analysed Refusal → Type 0
HasTask image system name timing (Ok analysed) = (task_named system name ≡ Some analysed.task) × IsPlantOf image system timing analysed.plant
HasTask image system name timing (Err refusal) = HasNoTask image system timing name refusal

abbrev pub TaskWithTiming : {F : Type 0} → Calls F → List ℕ → List ℕ → System → ImageData → Step F Analysed
TaskWithTiming calls timing task system image = Then (TimingFile calls timing) (λ times. Judged (HasTask image system task times))

abbrev pub TaskWithImage : {F : Type 0} → Calls F → List ℕ → List ℕ → List ℕ → System → Step F Analysed
TaskWithImage calls elf timing task system = Then (ElfImage calls elf) (TaskWithTiming calls timing task system)

-- ---- the task of a flat image

abbrev pub HasLone : List ℕ → Result Analysed Refusal → Type 0
HasLone bytes (Ok analysed) =
    (image : ImageData) × (flat_of bytes ≡ Ok image) × (analysed.task ≡ 0)
    × IsPlantOf image the_lone_system the_unit_timing analysed.plant
HasLone bytes (Err refusal) =
    ((kind : ElfKind) × (flat_of bytes ≡ Err kind) × (refusal ≡ elf_refusal kind))
    ⊎ ((image : ImageData) × (flat_of bytes ≡ Ok image) × HasPlant image the_lone_system the_unit_timing (Err refusal))

-- ---- both

abbrev pub AnalysedOf : {F : Type 0} → Calls F → Subject → Step F Analysed
AnalysedOf calls (Lone image) = File calls image image_limit HasLone
AnalysedOf calls (Named oil elf timing task) = Then (OilSystem calls oil) (TaskWithImage calls elf timing task)
