-- The steps of the OSEK machine, each kind a record of what holds of the states before and after it.
use Rattle.std.specs.Prelude.{◌≡◌, ℕ, ◌+◌, ◌≤◌, true, false, Some, None, slice_set}
use Rattle.oil_model.specs.declared.system.System.{System}
use Rattle.elf_image.specs.Image.{ImageData}
use Rattle.rv32_decode.specs.declared.instruction.Insn.TheVariants.{Ecall}
use Rattle.rv32_machine.specs.Registers.{AreRegisters, value_of, with_value}
use Rattle.rv32_machine.specs.Execution.{following}
use Rattle.rv32_machine.specs.Code.{insn_at}
use Rattle.rv32_machine.specs.ContextStep.{Standing, ContextStep}
use Rattle.rv32_machine.specs.Steps.{span_of}
use Rattle.osek_kernel.specs.declared.service.Code.{Code}
use Rattle.osek_kernel.specs.Services.{service_of, takes, code_number}
use Rattle.osek_kernel.specs.Sources.{source_at, is_live}
use Rattle.osek_kernel.specs.Kernel.{interrupts_open}
use Rattle.osek_kernel.specs.Running.{runs, dispatched}
use Rattle.osek_kernel.specs.Served.{Served, served}
use Rattle.osek_kernel.specs.Taken.{Taken, taken}
use Rattle.osek_kernel.specs.Positions.{placed, started, answered}
use Rattle.osek_machine.specs.State.{MachineState, standing_of, is_pending, at_entry}
use Rattle.osek_machine.specs.Events.{Arrival, Taking, Execution, ServiceCall, Event, Arrive, Take, Execute, Serve, Idle}

-- the state when so many cycles have passed since it was reached
abbrev pub later : ℕ → MachineState → MachineState
later cycles state = record state { moment = state.moment + cycles; last_start = state.moment }

-- ---- Arrive: a source comes from outside

-- The moment lies in the step before that took time; at the start of a run it is 0.
pub record Arrives (system : System) (arrival : Arrival) (before after : MachineState) : Type 0 where
  pub live : is_live system before.kernel.mode (source_at system arrival.source) ≡ true
  pub begun : before.last_start ≤ arrival.moment
  pub past : arrival.moment ≤ before.moment
  pub becomes : after ≡ record before { pending = slice_set before.pending arrival.source true }

-- ---- Take: the kernel takes a pending source, while interrupts are open

abbrev pub taken_by : System → ℕ → MachineState → Taken
taken_by system source before = taken system before.kernel (source_at system source)

abbrev pub after_take : ImageData → System → Taking → MachineState → MachineState
after_take image system taking before =
    let done = taken_by system taking.source before in
    later taking.cycles (record before {
      kernel = dispatched system done.kernel;
      standings = started system (at_entry image system taking.registers) done.started before.standings;
      pending = slice_set before.pending taking.source false;
    })

pub record Takes (image : ImageData) (system : System) (taking : Taking) (before after : MachineState) : Type 0 where
  pub interrupts : interrupts_open before.kernel ≡ true
  pub pending : is_pending before taking.source ≡ true
  pub registers : AreRegisters taking.registers
  pub started : taking.started ≡ (taken_by system taking.source before).started
  pub becomes : after ≡ after_take image system taking before

-- ---- Execute: the running context executes an instruction other than ECALL

pub record Executes (image : ImageData) (system : System) (execution : Execution) (before after : MachineState) : Type 0 where
  pub running : runs system before.kernel ≡ Some execution.context
  pub stands : standing_of system before execution.context ≡ Some execution.before
  pub step : ContextStep (insn_at image) execution.device before.memory after.memory execution.before execution.after
  pub stored : execution.stored ≡ span_of step.effect.stored
  pub becomes : after ≡ later execution.cycles (record before {
    standings = placed system execution.context (Some execution.after) before.standings;
    memory = after.memory;
  })

-- ---- Serve: the running context is at an ECALL, and calls a service

-- the number of the service is in register a7, and its argument in a0
abbrev pub number_in : Standing → ℕ
number_in standing = value_of standing.registers 17

abbrev pub argument_in : Standing → ℕ
argument_in standing = value_of standing.registers 10

-- a caller that goes on does so at the next word, with the service's code in a0
abbrev pub gone_on : Code → Standing → Standing
gone_on code standing = record standing {
  registers = with_value standing.registers 10 (code_number code);
  place = following standing.place;
}

abbrev pub served_by : System → ServiceCall → MachineState → Served
served_by system call before = served system before.kernel call.caller call.service (argument_in call.before)

abbrev pub after_service : ImageData → System → ServiceCall → MachineState → MachineState
after_service image system call before =
    let done = served_by system call before in
    let next = gone_on done.reply.code call.before in
    later call.cycles (record before {
      kernel = dispatched system done.kernel;
      standings = answered system (at_entry image system call.registers) call.caller (Some next) done.reply before.standings;
    })

pub record Serves (image : ImageData) (system : System) (call : ServiceCall) (before after : MachineState) : Type 0 where
  pub running : runs system before.kernel ≡ Some call.caller
  pub stands : standing_of system before call.caller ≡ Some call.before
  pub fetched : insn_at image call.before.place ≡ Some Ecall
  pub service : service_of (number_in call.before) ≡ Some call.service
  pub argument : takes system call.service (argument_in call.before) ≡ true
  pub registers : AreRegisters call.registers
  pub replied : call.reply ≡ (served_by system call before).reply
  pub becomes : after ≡ after_service image system call before

-- ---- Idle: time passes while no context is active

pub record Idles (system : System) (cycles : ℕ) (before after : MachineState) : Type 0 where
  pub nobody : runs system before.kernel ≡ None
  pub becomes : after ≡ later cycles before

-- ---- One step

abbrev pub Step : ImageData → System → Event → MachineState → MachineState → Type 0
Step image system (Arrive arrival) before after = Arrives system arrival before after
Step image system (Take taking) before after = Takes image system taking before after
Step image system (Execute execution) before after = Executes image system execution before after
Step image system (Serve call) before after = Serves image system call before after
Step image system (Idle cycles) before after = Idles system cycles before after
