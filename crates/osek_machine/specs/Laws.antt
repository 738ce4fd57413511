-- Laws of the machine, which follow from its definitions.
use Rattle.std.specs.Prelude.{◌≡◌, ℕ, ◌+◌, List, ◌∷◌}
use Rattle.oil_model.specs.declared.system.System.{System}
use Rattle.oil_model.specs.System.{IsLawful}
use Rattle.elf_image.specs.Image.{ImageData}
use Rattle.timing_file.specs.declared.timing.Timing.{Timing}
use Rattle.osek_kernel.specs.declared.context.Context.{Context}
use Rattle.osek_machine.specs.State.{MachineState}
use Rattle.osek_machine.specs.Events.{Event, Execution, ServiceCall, cycles_of, duration}
use Rattle.osek_machine.specs.Steps.{Step, Executes, Serves}
use Rattle.osek_machine.specs.Runs.{IsRun}
use Rattle.osek_machine.specs.Room.{HaveEntries, IsStateOf}
use Rattle.osek_machine.specs.Declarations.{IsDeclared}
use Rattle.osek_machine.specs.Stuck.{IsStuck}

-- A step takes its cycles, and leaves the mode.
pub record Passes (event : Event) (before after : MachineState) : Type 0 where
  pub moment : after.moment ≡ before.moment + cycles_of event
  pub mode : after.kernel.mode ≡ before.kernel.mode

abbrev pub StepsTakeTheirTime : Type 0
StepsTakeTheirTime = (image : ImageData) (system : System) (event : Event) (before after : MachineState)
    → Step image system event before after → Passes event before after

-- Every state of a run stands at the sum of the cycles, in the run's mode.
pub record Stands (mode : ℕ) (events : List Event) (state : MachineState) : Type 0 where
  pub moment : state.moment ≡ duration events
  pub in_mode : state.kernel.mode ≡ mode

abbrev pub RunsTakeTheirTime : Type 0
RunsTakeTheirTime = (image : ImageData) (system : System) (mode : ℕ) (events : List Event) (state : MachineState)
    → IsRun image system mode events state → Stands mode events state

-- In every state of a run exactly the active contexts stand somewhere, and there is room for every source.
abbrev pub RunsKeepRoom : Type 0
RunsKeepRoom = (image : ImageData) (system : System) (mode : ℕ) (events : List Event) (state : MachineState)
    → IsLawful system → HaveEntries image system → IsRun image system mode events state → IsStateOf system state

-- What a run keeps that is declared, it kept before its newest step.
abbrev pub PrefixesAreDeclared : Type 0
PrefixesAreDeclared = (image : ImageData) (system : System) (timing : Timing) (event : Event) (earlier : List Event)
    → IsDeclared image system timing (event ∷ earlier) → IsDeclared image system timing earlier

-- A context that is stuck makes no step.
abbrev pub StuckMakeNoStep : Type 0
StuckMakeNoStep = (image : ImageData) (system : System) (context : Context) (address : ℕ) (state after : MachineState)
    → IsStuck image system state context address
    → ((execution : Execution) → Executes image system execution state after → ⊥)
    × ((call : ServiceCall) → Serves image system call state after → ⊥)
