-- The state of the OSEK machine: what the kernel keeps, how each active context stands in the code, memory, the
-- sources that have arrived, and the time.
use Rattle.std.specs.Prelude.{◌≡◌, ℕ, ◌++◌, List, [], codes, Bool, false, Option, Some, option_map, option_and_then, slice_index_or}
use Rattle.std.specs.Option.{option_map_or}
use Rattle.oil_model.specs.declared.system.System.{System}
use Rattle.elf_image.specs.Image.{ImageData, symbol_of}
use Rattle.rv32_machine.specs.Registers.{AreRegisters, zeros, with_value}
use Rattle.rv32_machine.specs.ContextStep.{Standing}
use Rattle.osek_kernel.specs.declared.context.Context.{Context}
use Rattle.osek_kernel.specs.declared.kernel.Kernel.{Kernel}
use Rattle.osek_kernel.specs.Contexts.{name_of, entry_of}
use Rattle.osek_kernel.specs.Positions.{position_of}

pub record MachineState : Type 0 where
  pub kernel : Kernel
  -- for each context, tasks by id and then ISRs by id, how it stands; none where it isn't active
  pub standings : List (Option Standing)
  -- the loaded byte at each address, or none
  pub memory : ℕ → Option ℕ
  -- for each source by number, whether it has arrived and wasn't taken yet
  pub pending : List Bool
  -- in cycles: the moment now, and the moment at which the last step that takes time began
  pub moment : ℕ
  pub last_start : ℕ

abbrev pub standing_of : System → MachineState → Context → Option Standing
standing_of system state context = position_of system state.standings context

abbrev pub is_pending : MachineState → ℕ → Bool
is_pending state source = slice_index_or state.pending source false

abbrev pub standing_at : List ℕ → ℕ → Standing
standing_at registers place = record { registers = registers; place = place; calls = [] }

-- A context that starts stands at its entry, with these registers and no open call.
abbrev pub at_entry : ImageData → System → List ℕ → Context → Option Standing
at_entry image system registers context = option_map (standing_at registers) (entry_of image system context)

-- The registers with which the program starts a context: the stack pointer has the value of the symbol `Stack_` and
-- then the context's name, where there is one, and all else is 0.
abbrev pub registers_at_start : ImageData → System → Context → List ℕ
registers_at_start image system context =
    option_map_or (with_value zeros 2) (option_and_then (λ name. symbol_of image (codes "Stack_" ++ name)) (name_of system context)) zeros

-- A context that starts stands at its entry, with any registers and no open call.
pub record StandsAtEntry (image : ImageData) (system : System) (context : Context) (standing : Standing) : Type 0 where
  pub registers : AreRegisters standing.registers
  pub place : entry_of image system context ≡ Some standing.place
  pub calls : standing.calls ≡ []
