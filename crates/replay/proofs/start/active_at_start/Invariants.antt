use Rattle.std.proofs.Common.{◌≡◌, ◌<◌, ℕ, None, length}
use Rattle.std.specs.Prelude.{slice_index_or, option_map}
use Rattle.osek_kernel.specs.Kernel.{task_state}
use Rattle.osek_machine.specs.Machine.{state_of}
use Rattle.replay.proofs.start.active_at_start.Given as goal

abbrev pub invariant-loop-task : goal.invariant-loop-task
invariant-loop-task l = record {
  count : length l.active.items ≡ l.task;
  each : (k : ℕ) → k < l.task → slice_index_or l.active.items k None ≡ option_map (λ state. 0) (task_state (state_of l.machine).kernel k);
}
