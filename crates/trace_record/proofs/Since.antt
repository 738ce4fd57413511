-- Since when the task is active, as a move tells it and as a step of a run does.
use Rattle.std.proofs.Common.{◌≡◌, ℕ, Bool, true, false, cond, List, ◌∷◌, Option, Some, None, refl, sym, ◌∙◌, ap, is_some}
use Rattle.std.specs.Prelude.{◌&&◌, ◌||◌, not}
use Rattle.osek_kernel.specs.declared.context.Context.TheVariants as contexts
use Rattle.osek_kernel.specs.Kernel.{task_state}
use Rattle.osek_machine.specs.Activations.{active_since}
use Rattle.osek_machine.specs.Events.{Event, duration, started_by, ended_by}
use Rattle.osek_machine.specs.Loops.{is_this}
use Rattle.osek_machine.specs.State.{MachineState}
use Rattle.osek_machine.specs.Steps.{Step}
use Rattle.wcet_atomic_blocks.specs.Plants.{PlantData}
use Rattle.row_build.specs.Columns.{Going, is_active_in, ends_in}
use Rattle.activation_windows.proofs.Induction.{this_is, is_this_one}
use Rattle.trace_check.specs.Verdict.{since_after}
use Rattle.trace_record.proofs.Active.{Agrees, ends_first}

-- What a move does where it starts or ends the task, by whether the task is active before and after it.
by_tests : (now : ℕ) (prior : Option ℕ) (starts ends from to : Bool) → from ≡ is_some prior → to ≡ is_some (cond starts (Some now) (cond ends None prior))
    → (starts ≡ true → is_some prior ≡ true → ends ≡ true)
    → cond (to && (not from || ends)) (Some now) (cond to prior None) ≡ cond starts (Some now) (cond ends None prior)
by_tests now prior starts ends from to before after again =
    ap (λ b. cond (to && (not b || ends)) (Some now) (cond to prior None)) before
    ∙ (ap (λ b. cond (b && (not (is_some prior) || ends)) (Some now) (cond b prior None)) after ∙ by prior starts ends again)
  where
    by : (o : Option ℕ) (s e : Bool) → (s ≡ true → is_some o ≡ true → e ≡ true)
        → cond (is_some (cond s (Some now) (cond e None o)) && (not (is_some o) || e)) (Some now) (cond (is_some (cond s (Some now) (cond e None o))) o None)
        ≡ cond s (Some now) (cond e None o)
    by None true e only = refl
    by (Some since) true true only = refl
    by (Some since) true false only = absurd (let wrong : false ≡ true = only refl refl in cc)
    by None false true only = refl
    by (Some since) false true only = refl
    by None false false only = refl
    by (Some since) false false only = refl

-- The move is that of the step, in what it says of the task.
pub record IsMoveOf (plant : PlantData) (task : ℕ) (event : Event) (before after : MachineState) (going : Going) : Type 0 where
  pub from_is : is_active_in going.from (contexts.Task task) ≡ is_some (task_state before.kernel task)
  pub to_is : is_active_in going.move.to (contexts.Task task) ≡ is_some (task_state after.kernel task)
  pub ends : ends_in plant (contexts.Task task) going ≡ is_this (contexts.Task task) (ended_by event)

some_there : (o : Option ℕ) → is_some o ≡ true → (n : ℕ) × (o ≡ Some n)
some_there None e = absurd cc
some_there (Some n) e = (n, refl)

pub since_moves : (plant : PlantData) (task mode : ℕ) (event : Event) (earlier : List Event) (before after : MachineState) (going : Going)
    → Step plant.image plant.system event before after → IsMoveOf plant task event before after going
    → Agrees plant task mode earlier before → Agrees plant task mode (event ∷ earlier) after
    → since_after plant task (duration earlier) going (active_since plant.system mode task earlier)
    ≡ active_since plant.system mode task (event ∷ earlier)
since_moves plant task mode event earlier before after going step is agree agree_after =
    ap (λ b. cond (is_active_in going.move.to (contexts.Task task) && (not (is_active_in going.from (contexts.Task task)) || b)) (Some (duration earlier))
    (cond (is_active_in going.move.to (contexts.Task task)) (active_since plant.system mode task earlier) None)) is.ends
    ∙ by_tests (duration earlier) (active_since plant.system mode task earlier) (is_this (contexts.Task task) (started_by event))
    (is_this (contexts.Task task) (ended_by event)) (is_active_in going.from (contexts.Task task)) (is_active_in going.move.to (contexts.Task task))
    (is.from_is ∙ sym agree) (is.to_is ∙ sym agree_after) again
  where
    again : is_this (contexts.Task task) (started_by event) ≡ true → is_some (active_since plant.system mode task earlier) ≡ true
        → is_this (contexts.Task task) (ended_by event) ≡ true
    again starts active =
        let since = some_there (active_since plant.system mode task earlier) active in
        is_this_one (contexts.Task task) (ended_by event)
        (ends_first plant task mode event earlier before after since.0 step agree since.1 (this_is (contexts.Task task) (started_by event) starts))
