-- The theorem at work on three small systems: bounds that their certificates give, and a run that meets every premise.
use Rattle.std.specs.Prelude.{◌≡◌, ℕ, List}
use Rattle.osek_machine.specs.State.{MachineState}
use Rattle.osek_machine.specs.Events.{Event, duration}
use Rattle.row_build.specs.Columns.{Column}
use Rattle.activation_windows.specs.Bounds.{BoundsActivations}
use Rattle.activation_windows.specs.Counted.{IsDeclaredCase, IsUsed}
use Rattle.activation_windows.specs.Samples.Interrupted as interrupted
use Rattle.activation_windows.specs.Samples.Preempted as preempted
use Rattle.activation_windows.specs.Samples.Scheduled as scheduled

-- no activation of the task that an alarm's task preempts, of the one that an ISR activates while a resource is held, and
-- of the one that can't be preempted but where it asks for it, lasts longer, in cycles
pub record SamplesAreBounded : Type 0 where
  pub preempted_task : BoundsActivations preempted.plant 0 133
  pub activated_task : BoundsActivations interrupted.plant 1 124
  pub scheduled_task : BoundsActivations scheduled.plant 0 131

-- a declared run of the first system, in which the task's activation has ended after 75 cycles
pub record HasDeclaredRun : Type 0 where
  pub events : List Event
  pub state : MachineState
  pub is_case : IsDeclaredCase preempted.plant preempted.states 0 0 events state
  pub uses : List Column
  pub used : IsUsed preempted.plant 0 0 events uses 0
  pub lasts : duration events ≡ 75
