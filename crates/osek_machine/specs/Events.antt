-- What happens in the steps of the OSEK machine.
use Rattle.std.specs.Prelude.{ℕ, ◌+◌, List, [], ◌∷◌, Option, None, option_map}
use Rattle.rv32_machine.specs.declared.next.Span.{Span}
use Rattle.rv32_machine.specs.ContextStep.{Standing}
use Rattle.osek_kernel.specs.declared.context.Context.{Context}
use Rattle.osek_kernel.specs.declared.context.Context.TheVariants as contexts
use Rattle.osek_kernel.specs.declared.kernel.Reply.{Reply}
use Rattle.osek_kernel.specs.declared.service.Service.{Service}

-- A source arrives at a moment; it is pending from then on.
pub record Arrival : Type 0 where
  pub source : ℕ
  pub moment : ℕ

-- The kernel takes a source. If a context starts, it starts with these registers.
pub record Taking : Type 0 where
  pub source : ℕ
  pub started : Option Context
  pub registers : List ℕ
  pub cycles : ℕ

-- The running context executes an instruction: how it stands before and after, the addresses that it stores to,
-- and the four bytes that a device gives, as one word.
pub record Execution : Type 0 where
  pub context : Context
  pub before : Standing
  pub after : Standing
  pub stored : Option Span
  pub device : ℕ
  pub cycles : ℕ

-- The running context calls a service of the kernel, which replies. If a task is activated, it starts with these
-- registers.
pub record ServiceCall : Type 0 where
  pub caller : Context
  pub before : Standing
  pub service : Service
  pub reply : Reply
  pub registers : List ℕ
  pub cycles : ℕ

-- What happens in one step.
pub data Event : Type 0 where
  Arrive : Arrival → Event
  Take : Taking → Event
  Execute : Execution → Event
  Serve : ServiceCall → Event
  -- no context is active, and so many cycles pass
  Idle : ℕ → Event

-- how long the step takes
abbrev pub cycles_of : Event → ℕ
cycles_of (Arrive arrival) = 0
cycles_of (Take taking) = taking.cycles
cycles_of (Execute execution) = execution.cycles
cycles_of (Serve call) = call.cycles
cycles_of (Idle cycles) = cycles

-- how long the steps take together
abbrev pub duration : List Event → ℕ
duration [] = 0
duration (event ∷ earlier) = duration earlier + cycles_of event

-- the context that starts at the end of the step, and the one that ends then
abbrev pub started_by : Event → Option Context
started_by (Take taking) = taking.started
started_by (Serve call) = option_map contexts.Task call.reply.activated
started_by _ = None

abbrev pub ended_by : Event → Option Context
ended_by (Serve call) = call.reply.ended
ended_by _ = None
