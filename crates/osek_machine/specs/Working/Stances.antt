-- How contexts stand in a list over all contexts, and what a step of one of them changes there.
use Rattle.std.specs.Prelude.{◌≡◌, ℕ, ◌<◌, Bool, true, false, not, length, is_some, IsSome, if◌then◌else◌, List, Option, Some, None, option_map, slice_index_or, slice_set}
use Rattle.std.specs.Option.{option_map_or}
use Rattle.elf_image.specs.Image.{ImageData}
use Rattle.oil_model.specs.declared.system.System.{System}
use Rattle.rv32_decode.specs.declared.instruction.Insn.{Insn}
use Rattle.rv32_machine.specs.declared.next.Stepped.{Stepped}
use Rattle.rv32_machine.specs.declared.turns.ServiceAt.{ServiceAt}
use Rattle.rv32_machine.specs.Registers.{AreRegisters}
use Rattle.rv32_machine.specs.ContextStep.{Standing, HasStepped}
use Rattle.osek_kernel.specs.declared.context.Context.{Context}
use Rattle.osek_kernel.specs.declared.context.Context.TheVariants as contexts
use Rattle.osek_kernel.specs.declared.kernel.Reply.{Reply}
use Rattle.osek_kernel.specs.declared.service.Service.{Service}
use Rattle.osek_kernel.specs.Services.{service_of, takes}
use Rattle.osek_kernel.specs.Contexts.{context_at, context_count}
use Rattle.osek_kernel.specs.declared.kernel.Kernel.{Kernel}
use Rattle.osek_kernel.specs.Kernel.{task_state}
use Rattle.osek_kernel.specs.Positions.{position_of, started, answered}
use Rattle.osek_machine.specs.State.{at_entry, registers_at_start}
use Rattle.osek_machine.specs.Steps.{gone_on, number_in, argument_in}
use Rattle.osek_machine.specs.Machine.{registers_given}

-- The context at the place stands at the address, and this instruction stands there.
pub record StandsAt (code : ℕ → Option Insn) (stances : List (Option Standing)) (place address : ℕ) (insn : Insn) : Type 0 where
  pub standing : Standing
  pub stands : slice_index_or stances place None ≡ Some standing
  pub at : address ≡ standing.place
  pub fetched : code address ≡ Some insn

-- where the context at the place stands
abbrev pub address_at : List (Option Standing) → ℕ → ℕ
address_at stances place = option_map_or (λ s. s.place) (slice_index_or stances place None) 0

-- what the context at the place asks of the kernel
abbrev pub request_of : Standing → ServiceAt
request_of standing = record { number = number_in standing; argument = argument_in standing }

abbrev pub request_at : List (Option Standing) → ℕ → ServiceAt
request_at stances place = option_map_or request_of (slice_index_or stances place None) (record { number = 0; argument = 0 })

-- The request is for a service that takes its argument.
pub record AsksFor (system : System) (request : ServiceAt) (service : Service) : Type 0 where
  pub named : service_of request.number ≡ Some service
  pub taken : takes system service request.argument ≡ true

-- whether there is no such service
abbrev pub asks_none : System → ServiceAt → Bool
asks_none system request = not (option_map_or (λ service. takes system service request.argument) (service_of request.number) false)

-- The context at the place made a step.
pub record HasExecuted (code : ℕ → Option Insn) (device : ℕ) (memory memory' : ℕ → Option ℕ) (before after : List (Option Standing)) (place : ℕ) (answer : Stepped) : Type 0 where
  pub standing : Standing
  pub next : Standing
  pub stood : slice_index_or before place None ≡ Some standing
  pub stepped : HasStepped code device memory memory' standing next answer
  pub becomes : after ≡ slice_set before place (Some next)

-- The context starts, if there is one.
abbrev pub started_in : ImageData → System → Option Context → List (Option Standing) → List (Option Standing)
started_in image system who stances = started system (at_entry image system (registers_given image system who)) who stances

-- The caller goes on or ends, and the task that is activated starts.
abbrev pub answered_in : ImageData → System → Context → Reply → List (Option Standing) → List (Option Standing)
answered_in image system caller reply stances =
    answered system (at_entry image system (registers_given image system (option_map contexts.Task reply.activated))) caller
    (option_map (gone_on reply.code) (position_of system stances caller)) reply stances

-- how a context stands at the start of a mode, in which no ISR is active
abbrev pub standing_at_start : ImageData → System → Kernel → Context → Option Standing
standing_at_start image system kernel (contexts.Task t) =
    if is_some (task_state kernel t) then at_entry image system (registers_at_start image system (contexts.Task t)) (contexts.Task t) else None
standing_at_start image system kernel (contexts.Isr i) = None

-- A context stands so, with registers.
pub record StandsAtStart (image : ImageData) (system : System) (kernel : Kernel) (context : Context) (standing : Option Standing) : Type 0 where
  pub is : standing ≡ standing_at_start image system kernel context
  pub registers : IsSome standing → AreRegisters (registers_at_start image system context)

-- Each context stands so.
pub record AreAtStart (image : ImageData) (system : System) (kernel : Kernel) (stances : List (Option Standing)) : Type 0 where
  pub count : length stances ≡ context_count system
  pub each : (n : ℕ) → n < length stances → StandsAtStart image system kernel (context_at system n) (slice_index_or stances n None)
