-- Runs of the OSEK machine.
use Rattle.std.specs.Prelude.{◌≡◌, ℕ, ◌<◌, List, [], ◌∷◌, false, Some, length, replicate}
use Rattle.oil_model.specs.declared.system.System.{System}
use Rattle.elf_image.specs.Image.{ImageData, initial_byte}
use Rattle.rv32_machine.specs.ContextStep.{Standing}
use Rattle.osek_kernel.specs.declared.context.Context.{Context}
use Rattle.osek_kernel.specs.Contexts.{IsContext}
use Rattle.osek_kernel.specs.Sources.{source_count}
use Rattle.osek_kernel.specs.Taken.{initial}
use Rattle.osek_kernel.specs.Positions.{ArePositions}
use Rattle.osek_machine.specs.State.{MachineState, standing_of, StandsAtEntry}
use Rattle.osek_machine.specs.Events.{Event}
use Rattle.osek_machine.specs.Steps.{Step}

-- The start of a mode: the tasks that are autostarted in it are active and stand at their entries, and nothing
-- else is active, pending, held or locked.
pub record IsInitial (image : ImageData) (system : System) (mode : ℕ) (state : MachineState) : Type 0 where
  pub exists : mode < length system.modes
  pub kernel : state.kernel ≡ initial system mode
  pub standings : ArePositions system state.kernel state.standings
  pub entries : (c : Context) (standing : Standing) → IsContext system c → standing_of system state c ≡ Some standing
      → StandsAtEntry image system c standing
  pub memory : state.memory ≡ initial_byte image.memory
  pub pending : state.pending ≡ replicate (source_count system) false
  pub moment : state.moment ≡ 0
  pub last_start : state.last_start ≡ 0

-- The steps, of which the newest stands first, lead from the start of the mode to the state. So what is left
-- without the newest ones is a run too.
abbrev pub IsRun : ImageData → System → ℕ → List Event → MachineState → Type 0
IsRun image system mode [] state = IsInitial image system mode state
IsRun image system mode (event ∷ earlier) state =
    (before : MachineState) × IsRun image system mode earlier before × Step image system event before state
