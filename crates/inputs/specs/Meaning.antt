-- What it means that a number bounds the task of some files: in every run of the OSEK machine over the system, the image and the
-- timing that the files are, which keeps what is declared (the distances of arrivals, the bounds of loops, paired returns, code that
-- isn't written and the costs of steps), no activation of the task lasts longer, ended or not. Nothing of the analysis stands here.
use Rattle.std.specs.Prelude.{◌≡◌, ℕ, ◌≤◌, List, Contains, Some, Ok}
use Rattle.wcet_io.specs.Files.{FilesOutside, Told}
use Rattle.elf_image.specs.Image.{ImageData}
use Rattle.elf_image.specs.Elf.{elf_of}
use Rattle.elf_image.specs.Flat.{flat_of}
use Rattle.oil_grammar.specs.declared.tree.Tree.{Tree}
use Rattle.oil_grammar.specs.Grammar.{IsTextOf}
use Rattle.oil_model.specs.declared.system.System.{System}
use Rattle.oil_model.specs.Answers.{task_named}
use Rattle.oil_model.specs.Lone.{the_lone_system}
use Rattle.oil_model.specs.Meaning.{IsSystemOf}
use Rattle.json_fields.specs.Files.{IsGiven}
use Rattle.timing_file.specs.declared.fault.TimingKind.TheVariants as timing_kinds
use Rattle.timing_file.specs.declared.timing.Timing.{Timing}
use Rattle.timing_file.specs.Timing.{timing_in}
use Rattle.timing_file.specs.Unit.{the_unit_timing}
use Rattle.osek_machine.specs.Activations.{Activation, activations}
use Rattle.osek_machine.specs.Declarations.{IsDeclared}
use Rattle.osek_machine.specs.Events.{Event}
use Rattle.osek_machine.specs.Runs.{IsRun}
use Rattle.osek_machine.specs.State.{MachineState}
use Rattle.command_steps.specs.Steps.{Calls, IsCall}
use Rattle.inputs.specs.declared.subjects.Subject.{Subject}
use Rattle.inputs.specs.declared.subjects.Subject.TheVariants.{Lone, Named}

-- ---- Bounds of activations

-- No activation of the task lasts longer, in cycles, in any run of the machine that keeps what is declared.
abbrev pub LastsAtMost : ImageData → System → Timing → ℕ → ℕ → Type 0
LastsAtMost image system timing task bound =
    (mode : ℕ) (events : List Event) (state : MachineState) (activation : Activation)
    → IsRun image system mode events state → IsDeclared image system timing events
    → Contains (activations system mode events) activation → activation.task ≡ task → activation.cycles ≤ bound

-- The bytes are those of an OIL file, whose tree stands for a system, of an image, and of a timing file.
pub record AreDeclared (oil elf timing : List ℕ) : Type 0 where
  pub tree : Tree
  pub is_text : IsTextOf tree oil
  pub system : System
  pub system_is : IsSystemOf tree system
  pub image : ImageData
  pub image_is : elf_of elf ≡ Ok image
  pub times : Timing
  pub times_are : IsGiven timing_kinds.Json timing_in timing (Ok times)

-- The system has a task of the name, and no activation of it lasts longer.
pub record BoundsTask (name : List ℕ) (bound : ℕ) (oil elf timing : List ℕ) : Type 0 where
  pub declared : AreDeclared oil elf timing
  pub task : ℕ
  pub named : task_named declared.system name ≡ Some task
  pub lasts : LastsAtMost declared.image declared.system declared.times task bound

-- No activation of the one task of the flat image lasts longer, where each instruction takes 1 cycle and each service 10.
pub record BoundsLone (bound : ℕ) (bytes : List ℕ) : Type 0 where
  pub image : ImageData
  pub is_flat : flat_of bytes ≡ Ok image
  pub lasts : LastsAtMost image the_lone_system the_unit_timing 0 bound

-- ---- Bytes of files

-- The bytes are those of the file with this name: a call of `read` gave them, and where the object tells at the start what
-- the name holds, it tells them.
pub record AreBytesOf {F : Type 0} (outside : F → FilesOutside) (reads : Calls F) (start : F) (name bytes : List ℕ) : Type 0 where
  pub before : F
  pub limit : ℕ
  pub after : F
  pub read : IsCall outside reads before name limit (Ok bytes) after
  pub told : (content : List ℕ) → Told ((outside start).told name) content → bytes ≡ content

-- the three files of a system have bytes of which this holds
abbrev pub OfSystem : (List ℕ → List ℕ → Type 0) → List ℕ → List ℕ → List ℕ → (List ℕ → List ℕ → List ℕ → Type 0) → Type 0
OfSystem Bytes oil elf timing Holds =
    (o : List ℕ) × Bytes oil o × ((e : List ℕ) × Bytes elf e × ((t : List ℕ) × Bytes timing t × Holds o e t))

-- No activation of what is analysed lasts longer, by the bytes of its files.
abbrev pub BoundsSubject : (List ℕ → List ℕ → Type 0) → Subject → ℕ → Type 0
BoundsSubject Bytes (Lone image) bound = (bytes : List ℕ) × Bytes image bytes × BoundsLone bound bytes
BoundsSubject Bytes (Named oil elf timing task) bound = OfSystem Bytes oil elf timing (BoundsTask task bound)
