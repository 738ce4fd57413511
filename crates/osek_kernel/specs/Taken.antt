-- What it does that the kernel takes a source that has arrived, and the kernel at the start.
use Rattle.std.specs.Prelude.{ℕ, Option, Some, None, option_map, slice_get, if◌then◌else◌}
use Rattle.oil_model.specs.declared.system.System.{System}
use Rattle.osek_kernel.specs.declared.context.Context.{Context}
use Rattle.osek_kernel.specs.declared.context.Context.TheVariants as contexts
use Rattle.osek_kernel.specs.declared.source.Source.{Source}
use Rattle.osek_kernel.specs.declared.source.Source.TheVariants as sources
use Rattle.osek_kernel.specs.declared.kernel.Kernel.{Kernel}
use Rattle.osek_kernel.specs.Kernel.{activate, autostarted}
use Rattle.osek_kernel.specs.Running.{dispatched}
use Rattle.osek_kernel.specs.Served.{is_suspended}

-- the kernel after it takes a source, and the context that this starts
pub record Taken : Type 0 where
  pub kernel : Kernel
  pub started : Option Context

abbrev pub outcome : Kernel → Option Context → Taken
outcome kernel started = record { kernel = kernel; started = started }

-- an alarm that expires activates its task, and does nothing where the task is active
abbrev pub expired : Kernel → ℕ → Taken
expired kernel task =
    if is_suspended kernel task then outcome (activate kernel task) (Some (contexts.Task task))
    else outcome kernel None

abbrev pub task_of : System → ℕ → Option ℕ
task_of system alarm = option_map (λ a. a.task) (slice_get system.alarms alarm)

abbrev pub alarm_taken : Kernel → Option ℕ → Taken
alarm_taken kernel None = outcome kernel None
alarm_taken kernel (Some task) = expired kernel task

-- an ISR that is taken is active from then on
abbrev pub taken : System → Kernel → Source → Taken
taken system kernel (sources.Alarm a) = alarm_taken kernel (task_of system a)
taken system kernel (sources.Isr i) = outcome (record kernel { isr = Some i }) (Some (contexts.Isr i))

-- the kernel at the start of a mode
abbrev pub initial : System → ℕ → Kernel
initial system mode = dispatched system (autostarted system mode)
