-- What holds of every state of a run.
use Rattle.std.specs.Prelude.{◌≡◌, ℕ, ◌<◌, ◌≤◌, length, Some, IsSome}
use Rattle.oil_model.specs.declared.system.System.{System}
use Rattle.elf_image.specs.Image.{ImageData}
use Rattle.osek_kernel.specs.declared.context.Context.{Context}
use Rattle.osek_kernel.specs.Contexts.{IsContext, entry_of}
use Rattle.osek_kernel.specs.Sources.{source_count}
use Rattle.osek_kernel.specs.Positions.{ArePositions}
use Rattle.osek_machine.specs.State.{MachineState}

-- every context's code begins somewhere
pub record HaveEntries (image : ImageData) (system : System) : Type 0 where
  pub each : (c : Context) → IsContext system c → IsSome (entry_of image system c)

-- The state has room for each context and source of the system and for no other; exactly the active contexts stand
-- somewhere; and the last step that takes time didn't begin later than now.
pub record IsStateOf (system : System) (state : MachineState) : Type 0 where
  pub positions : ArePositions system state.kernel state.standings
  pub tasks : length state.kernel.tasks ≡ length system.tasks
  pub isr : (i : ℕ) → state.kernel.isr ≡ Some i → i < length system.isrs
  pub pending : length state.pending ≡ source_count system
  pub time : state.last_start ≤ state.moment
