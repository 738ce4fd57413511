-- When the running context can make no step.
use Rattle.std.specs.Prelude.{◌≡◌, ℕ, Bool, true, false, not, Option, Some, None}
use Rattle.std.specs.Option.{option_map_or}
use Rattle.oil_model.specs.declared.system.System.{System}
use Rattle.elf_image.specs.Image.{ImageData}
use Rattle.rv32_decode.specs.declared.instruction.Insn.{Insn}
use Rattle.rv32_decode.specs.declared.instruction.Insn.TheVariants.{Ecall, Ebreak}
use Rattle.rv32_machine.specs.Code.{insn_at}
use Rattle.rv32_machine.specs.ContextStep.{Standing}
use Rattle.osek_kernel.specs.declared.context.Context.{Context}
use Rattle.osek_kernel.specs.Services.{service_of, takes}
use Rattle.osek_kernel.specs.Running.{runs}
use Rattle.osek_machine.specs.State.{MachineState, standing_of}
use Rattle.osek_machine.specs.Steps.{number_in, argument_in}

-- No step is possible there: no instruction, EBREAK, or an ECALL that asks for no service of the table.
abbrev pub asks_nothing : System → Standing → Bool
asks_nothing system standing =
    not (option_map_or (λ service. takes system service (argument_in standing)) (service_of (number_in standing)) false)

abbrev pub is_stuck_at : System → Standing → Option Insn → Bool
is_stuck_at system standing None = true
is_stuck_at system standing (Some Ebreak) = true
is_stuck_at system standing (Some Ecall) = asks_nothing system standing
is_stuck_at system standing (Some insn) = false

abbrev pub is_stuck : ImageData → System → Standing → Bool
is_stuck image system standing = is_stuck_at system standing (insn_at image standing.place)

pub record IsStuck (image : ImageData) (system : System) (state : MachineState) (context : Context) (address : ℕ) : Type 0 where
  pub standing : Standing
  pub running : runs system state.kernel ≡ Some context
  pub stands : standing_of system state context ≡ Some standing
  pub place : address ≡ standing.place
  pub stuck : is_stuck image system standing ≡ true
