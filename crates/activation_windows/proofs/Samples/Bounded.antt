-- The bounds of the samples by their certificates, and the run of the first one.
use Rattle.std.proofs.Common.{[], ◌∷◌, false, None, refl, lit<}
use Rattle.activation_windows.specs.Samples.Interrupted as interrupted
use Rattle.activation_windows.specs.Samples.Preempted as preempted
use Rattle.activation_windows.specs.Samples.Scheduled as scheduled
use Rattle.activation_windows.specs.Samples.Words.{columns_at}
use Rattle.activation_windows.specs.Worked.{SamplesAreBounded, HasDeclaredRun}
use Rattle.activation_windows.proofs.Bounding.{good_multipliers_bound_activations}
use Rattle.activation_windows.proofs.Samples.Interrupted as interrupted_states
use Rattle.activation_windows.proofs.Samples.InterruptedPlant as interrupted_plant
use Rattle.activation_windows.proofs.Samples.Preempted as preempted_states
use Rattle.activation_windows.proofs.Samples.PreemptedRun.{t_ended, state, ended, case_of_t, task_t, uses_of_t_are}
use Rattle.activation_windows.proofs.Samples.Scheduled as scheduled_states
use Rattle.activation_windows.proofs.Samples.ScheduledPlant as scheduled_plant

pub samples_are_bounded : SamplesAreBounded
samples_are_bounded = record {
  preempted_task = good_multipliers_bound_activations preempted.plant preempted.states 0 _ 237 133 task_t preempted_states.t_bound;
  activated_task = good_multipliers_bound_activations interrupted.plant interrupted.states 1 _ _ 124 (record {
    belongs = interrupted_plant.is_plant;
    closed = interrupted_states.closed;
    once = interrupted_states.once;
    exists = lit< tt;
  }) interrupted_states.t_bound;
  scheduled_task = good_multipliers_bound_activations scheduled.plant scheduled.states 0 _ _ 131 (record {
    belongs = scheduled_plant.is_plant;
    closed = scheduled_states.closed;
    once = scheduled_states.once;
    exists = lit< tt;
  }) scheduled_states.t_bound;
}

pub has_declared_run : HasDeclaredRun
has_declared_run = record {
  events = t_ended;
  state = state 75 55 (None ∷ None ∷ []) (false ∷ []) ended;
  is_case = case_of_t;
  uses = columns_at preempted.plant preempted.states 0 preempted.uses_of_t;
  used = uses_of_t_are;
  lasts = refl;
}
