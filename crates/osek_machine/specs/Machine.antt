-- The machine in code: the state that it is in, what holds of it between its calls, and what they answer.
use Rattle.std.specs.Prelude.{◌≡◌, ℕ, ◌<◌, Bool, false, IsTrue, ◌↔◌, IsSome, List, Option, Some, None, option_map, option_and_then, Result, Ok, Err}
use Rattle.std.specs.Option.{option_map_or}
use Rattle.listed.specs.declared.fault.Fault.{Fault}
use Rattle.listed.specs.declared.fault.Fault.TheVariants as faults
use Rattle.oil_model.specs.declared.system.System.{System}
use Rattle.oil_model.specs.System.{IsLawful}
use Rattle.elf_image.specs.Image.{ImageData}
use Rattle.rv32_decode.specs.declared.instruction.Insn.{Insn}
use Rattle.rv32_machine.specs.Code.{insn_at}
use Rattle.rv32_machine.specs.Registers.{zeros}
use Rattle.rv32_machine.specs.Memory.{memory_of}
use Rattle.rv32_machine.specs.ContextStep.{Standing}
use Rattle.osek_kernel.specs.declared.context.Context.{Context}
use Rattle.osek_kernel.specs.declared.context.Context.TheVariants as contexts
use Rattle.osek_kernel.specs.declared.service.Service.{Service}
use Rattle.osek_kernel.specs.Contexts.{IsContext, place_of, entry_of}
use Rattle.osek_kernel.specs.Services.{code_number}
use Rattle.osek_kernel.specs.Running.{runs}
use Rattle.osek_kernel.specs.Served.{served}
use Rattle.osek_machine.specs.declared.labels.Label.{Label}
use Rattle.osek_machine.specs.declared.labels.Label.TheVariants as labels
use Rattle.osek_machine.specs.declared.labels.NoEntry.{NoEntry}
use Rattle.osek_machine.specs.declared.labels.Stuck.{Stuck}
use Rattle.osek_machine.specs.declared.machine.Machine.{Machine}
use Rattle.osek_machine.specs.State.{MachineState, standing_of, registers_at_start}
use Rattle.osek_machine.specs.Events.{Taking, Execution, ServiceCall, Execute}
use Rattle.osek_machine.specs.Steps.{Executes, Serves, taken_by, number_in, argument_in}
use Rattle.osek_machine.specs.Runs.{IsInitial}
use Rattle.osek_machine.specs.Room.{HaveEntries, IsStateOf}
use Rattle.osek_machine.specs.Declarations.{ReturnsPaired, takes_branch}
use Rattle.osek_machine.specs.Stuck.{IsStuck}
use Rattle.osek_machine.specs.Decoded.{looked_up}

-- The state that the machine is in.
abbrev pub state_of : Machine → MachineState
state_of machine = record {
  kernel = machine.kernel;
  standings = machine.stances.items;
  memory = memory_of machine.memory;
  pending = machine.pending.items;
  moment = machine.moment;
  last_start = machine.last_start;
}

-- What holds of a machine between its calls: the system is lawful and has its code in the image, the machine has
-- room for it, it knows who runs, and it has the image's code.
pub record Fits (image : ImageData) (system : System) (machine : Machine) : Type 0 where
  pub lawful : IsLawful system
  pub entries : HaveEntries image system
  pub room : IsStateOf system (state_of machine)
  pub running : machine.running ≡ runs system machine.kernel
  pub code : looked_up machine.code.parts.items ≡ insn_at image

-- ---- The start

-- The first context that has no entry.
pub record LacksEntry (image : ImageData) (system : System) (context : Context) : Type 0 where
  pub exists : IsContext system context
  pub none : entry_of image system context ≡ None
  pub earlier : (c : Context) → IsContext system c → place_of system c < place_of system context → IsSome (entry_of image system c)

-- The start of the mode, in which each active context has the registers with which the program starts it.
pub record Begins (image : ImageData) (system : System) (mode : ℕ) (state : MachineState) : Type 0 where
  pub initial : IsInitial image system mode state
  pub registers : (c : Context) (standing : Standing) → IsContext system c → standing_of system state c ≡ Some standing
      → standing.registers ≡ registers_at_start image system c

abbrev pub StartGives : ImageData → System → ℕ → Result Machine (Fault NoEntry) → Type 0
StartGives image system mode (Ok machine) = Begins image system mode (state_of machine) × Fits image system machine
StartGives image system mode (Err (faults.Kind lack)) = LacksEntry image system lack.context
StartGives image system mode (Err faults.Memory) = Unit {0}

-- ---- Steps

-- the registers with which a step starts a context, if it starts one
abbrev pub registers_given : ImageData → System → Option Context → List ℕ
registers_given image system started = option_map_or (registers_at_start image system) started zeros

-- the kernel takes the source
abbrev pub taking_of : ImageData → System → ℕ → ℕ → MachineState → Taking
taking_of image system source cycles before =
    let who = (taken_by system source before).started in
    record { source = source; started = who; registers = registers_given image system who; cycles = cycles }

-- the context calls the service
abbrev pub call_of : ImageData → System → ℕ → Context → Standing → Service → MachineState → ServiceCall
call_of image system cycles caller standing service before =
    let reply = (served system before.kernel caller service (argument_in standing)).reply in
    record {
      caller = caller;
      before = standing;
      service = service;
      reply = reply;
      registers = registers_given image system (option_map contexts.Task reply.activated);
      cycles = cycles;
    }

-- The machine made the step of an instruction that the label tells.
pub record MadeInsn (image : ImageData) (system : System) (device cycles : ℕ) (before after : MachineState) (label : Label) : Type 0 where
  pub execution : Execution
  pub paired : Bool
  pub step : Executes image system execution before after
  pub given : execution.device ≡ device
  pub lasted : execution.cycles ≡ cycles
  pub told : label ≡ labels.Insn execution.context execution.before.place execution.after.place execution.stored paired
  pub returns : IsTrue paired ↔ ReturnsPaired image (Execute execution)

-- The machine made the call of a service that the label tells.
pub record MadeCall (image : ImageData) (system : System) (cycles : ℕ) (before after : MachineState) (label : Label) : Type 0 where
  pub caller : Context
  pub standing : Standing
  pub service : Service
  pub step : Serves image system (call_of image system cycles caller standing service before) before after
  pub told : label ≡ (let reply = (call_of image system cycles caller standing service before).reply in
      labels.Service caller standing.place (number_in standing) (argument_in standing) (code_number reply.code) reply.misuse)

abbrev pub Made : ImageData → System → ℕ → ℕ → MachineState → MachineState → Label → Type 0
Made image system device cycles before after (labels.Insn context from to stored paired) =
    MadeInsn image system device cycles before after (labels.Insn context from to stored paired)
Made image system device cycles before after (labels.Service context at number argument code misuse) =
    MadeCall image system cycles before after (labels.Service context at number argument code misuse)

-- A step, or nothing where the running context is stuck, or where memory was wanted.
abbrev pub StepGives : ImageData → System → ℕ → ℕ → MachineState → MachineState → Result Label (Fault Stuck) → Type 0
StepGives image system device cycles before after (Ok label) = Made image system device cycles before after label
StepGives image system device cycles before after (Err (faults.Kind stuck)) =
    IsStuck image system before stuck.context stuck.at × (after ≡ before)
StepGives image system device cycles before after (Err faults.Memory) = after ≡ before

-- ---- What is asked

-- how the running context stands
abbrev pub running_standing : System → MachineState → Option Standing
running_standing system state = option_and_then (standing_of system state) (runs system state.kernel)

-- whether the next instruction is a branch whose comparison holds
abbrev pub branches : (ℕ → Option Insn) → Standing → Bool
branches code standing = option_map_or (λ insn. takes_branch insn standing.registers) (code standing.place) false
