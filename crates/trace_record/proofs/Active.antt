-- A task is active in the kernel exactly where an activation of it has begun and hasn't ended. So a step that starts a
-- task that is active ends it too.
use Rattle.std.proofs.Common.{◌≡◌, ℕ, ◌<◌, Bool, true, false, cond, List, [], ◌∷◌, length, Option, Some, None, refl, sym, ◌∙◌, ap, subst, arith, inl, inr, is_some, option_map}
use Rattle.std.specs.Cmp.{both_ways}
use Rattle.std.proofs.lemmas.Option.{none-some, same_Some}
use Rattle.osek_kernel.specs.declared.context.Context.TheVariants as contexts
use Rattle.osek_kernel.specs.declared.kernel.Kernel.{Kernel}
use Rattle.osek_kernel.specs.declared.kernel.Reply.{Reply}
use Rattle.osek_kernel.specs.Kernel.{IsActive, task_state}
use Rattle.osek_kernel.specs.Taken.{initial}
use Rattle.osek_kernel.proofs.Theorems.{dispatch_keeps_active}
use Rattle.osek_machine.specs.State.{MachineState}
use Rattle.osek_machine.specs.Activations.{active_since}
use Rattle.osek_machine.specs.Events.{Event, Arrive, Take, Execute, Serve, Idle, duration, started_by, ended_by}
use Rattle.osek_machine.specs.Loops.{is_this}
use Rattle.osek_machine.specs.Room.{IsStateOf}
use Rattle.osek_machine.specs.Runs.{IsRun}
use Rattle.osek_machine.specs.Steps.{Step, taken_by, served_by}
use Rattle.osek_machine.proofs.Times.{runs_keep_room}
use Rattle.wcet_atomic_blocks.specs.Plants.{PlantData, IsPlant}
use Rattle.shadow_runs.proofs.Planted.{have_graph}
use Rattle.activation_windows.proofs.Induction.{this_is, is_this_one}
use Rattle.activation_windows.proofs.Windows.{take_active, serve_active, stays_active, goes_unended}

pub room_in : (plant : PlantData) → IsPlant plant → (mode : ℕ) (events : List Event) (state : MachineState)
    → IsRun plant.image plant.system mode events state → IsStateOf plant.system state
room_in plant is mode events state run = runs_keep_room plant.image plant.system mode events state is.system (have_graph plant is).entries run

-- ---- One step

activated_is : (activated : Option ℕ) (task : ℕ) → option_map contexts.Task activated ≡ Some (contexts.Task task) → activated ≡ Some task
activated_is None task e = absurd (none-some (contexts.Task task) e)
activated_is (Some t) task e = let same : contexts.Task t ≡ contexts.Task task = same_Some (contexts.Task t) (contexts.Task task) e in ap Some cc

-- a step that starts the task leaves it active
pub starts_active : (plant : PlantData) (task : ℕ) (event : Event) (before after : MachineState) → task < length before.kernel.tasks
    → Step plant.image plant.system event before after → started_by event ≡ Some (contexts.Task task) → IsActive after.kernel (contexts.Task task)
starts_active plant task (Arrive arrival) before after within step e = absurd (none-some (contexts.Task task) e)
starts_active plant task (Take taking) before after within step e =
    subst (λ (s : MachineState). IsActive s.kernel (contexts.Task task)) (sym step.becomes)
    ((dispatch_keeps_active plant.system (taken_by plant.system taking.source before).kernel).stays (contexts.Task task)
    (ap is_some ((take_active plant.system taking before plant.image after step).begins task within (sym step.started ∙ e))))
starts_active plant task (Execute execution) before after within step e = absurd (none-some (contexts.Task task) e)
starts_active plant task (Serve call) before after within step e =
    let done = served_by plant.system call before in
    subst (λ (s : MachineState). IsActive s.kernel (contexts.Task task)) (sym step.becomes)
    ((dispatch_keeps_active plant.system done.kernel).stays (contexts.Task task)
    (ap is_some ((serve_active plant.system call before plant.image after step).begins task within
    (activated_is done.reply.activated task (ap (λ (r : Reply). option_map contexts.Task r.activated) (sym step.replied) ∙ e)))))
starts_active plant task (Idle cycles) before after within step e = absurd (none-some (contexts.Task task) e)

-- a step that ends the task and doesn't start it leaves it suspended
ends_inactive : (plant : PlantData) (task : ℕ) (event : Event) (before after : MachineState)
    → Step plant.image plant.system event before after → ended_by event ≡ Some (contexts.Task task)
    → (started_by event ≡ Some (contexts.Task task) → ⊥) → IsActive after.kernel (contexts.Task task) → ⊥
ends_inactive plant task (Arrive arrival) before after step e on is = absurd (none-some (contexts.Task task) e)
ends_inactive plant task (Take taking) before after step e on is = absurd (none-some (contexts.Task task) e)
ends_inactive plant task (Execute execution) before after step e on is = absurd (none-some (contexts.Task task) e)
ends_inactive plant task (Serve call) before after step e on is =
    let done = served_by plant.system call before in
    (serve_active plant.system call before plant.image after step).gone (contexts.Task task) (ap (λ (r : Reply). r.ended) (sym step.replied) ∙ e)
    (λ begun. on (ap (λ (r : Reply). option_map contexts.Task r.activated) step.replied ∙ begun))
    ((dispatch_keeps_active plant.system done.kernel).only (contexts.Task task)
    (subst (λ (s : MachineState). IsActive s.kernel (contexts.Task task)) step.becomes is))
ends_inactive plant task (Idle cycles) before after step e on is = absurd (none-some (contexts.Task task) e)

-- a task that a step doesn't start was active before, where it is active behind it
was_active : (plant : PlantData) (task : ℕ) (event : Event) (before after : MachineState)
    → Step plant.image plant.system event before after
    → (started_by event ≡ Some (contexts.Task task) → ⊥) → IsActive after.kernel (contexts.Task task) → IsActive before.kernel (contexts.Task task)
was_active plant task (Arrive arrival) before after step on is = subst (λ (s : MachineState). IsActive s.kernel (contexts.Task task)) step.becomes is
was_active plant task (Take taking) before after step on is =
    let done = taken_by plant.system taking.source before in
    elim ((take_active plant.system taking before plant.image after step).only (contexts.Task task)
    ((dispatch_keeps_active plant.system done.kernel).only (contexts.Task task)
    (subst (λ (s : MachineState). IsActive s.kernel (contexts.Task task)) step.becomes is))) [
      | inl was ↦ was
      | inr starts ↦ absurd (on (step.started ∙ starts))
    ]
was_active plant task (Execute execution) before after step on is = subst (λ (s : MachineState). IsActive s.kernel (contexts.Task task)) step.becomes is
was_active plant task (Serve call) before after step on is =
    let done = served_by plant.system call before in
    elim ((serve_active plant.system call before plant.image after step).only (contexts.Task task)
    ((dispatch_keeps_active plant.system done.kernel).only (contexts.Task task)
    (subst (λ (s : MachineState). IsActive s.kernel (contexts.Task task)) step.becomes is))) [
      | inl was ↦ was
      | inr starts ↦ absurd (on (ap (λ (r : Reply). option_map contexts.Task r.activated) step.replied ∙ starts))
    ]
was_active plant task (Idle cycles) before after step on is = subst (λ (s : MachineState). IsActive s.kernel (contexts.Task task)) step.becomes is

-- ---- Runs

-- the test on what is known and the test on the kernel agree
abbrev pub Agrees : PlantData → ℕ → ℕ → List Event → MachineState → Type 0
Agrees plant task mode events state = is_some (active_since plant.system mode task events) ≡ is_some (task_state state.kernel task)

mapped_some : {A B : Type 0} (f : A → B) (o : Option A) → is_some (option_map f o) ≡ is_some o
mapped_some f None = refl
mapped_some f (Some a) = refl

unstarted : (task : ℕ) (event : Event) → is_this (contexts.Task task) (started_by event) ≡ false → started_by event ≡ Some (contexts.Task task) → ⊥
unstarted task event is e = let wrong : true ≡ false = sym (is_this_one (contexts.Task task) (started_by event) e) ∙ is in cc

not_so : (b : Bool) → (b ≡ true → ⊥) → b ≡ false
not_so true never = absurd (never refl)
not_so false never = refl

agrees_on : (plant : PlantData) (task mode : ℕ) (event : Event) (earlier : List Event) (before after : MachineState) → task < length before.kernel.tasks
    → Step plant.image plant.system event before after → Agrees plant task mode earlier before → Agrees plant task mode (event ∷ earlier) after
agrees_on plant task mode event earlier before after within step was =
    by (is_this (contexts.Task task) (started_by event)) (is_this (contexts.Task task) (ended_by event)) refl refl
  where
    by : (starts ends : Bool) → is_this (contexts.Task task) (started_by event) ≡ starts → is_this (contexts.Task task) (ended_by event) ≡ ends
        → is_some (cond starts (Some (duration earlier)) (cond ends None (active_since plant.system mode task earlier)))
        ≡ is_some (task_state after.kernel task)
    by true ends s e = sym (starts_active plant task event before after within step (this_is (contexts.Task task) (started_by event) s))
    by false true s e = sym (not_so (is_some (task_state after.kernel task))
        (ends_inactive plant task event before after step (this_is (contexts.Task task) (ended_by event) e) (unstarted task event s)))
    by false false s e = was ∙ both_ways (is_some (task_state before.kernel task)) (is_some (task_state after.kernel task))
        (stays_active plant event before after (contexts.Task task) step (goes_unended task event e))
        (was_active plant task event before after step (unstarted task event s))

pub agrees : (plant : PlantData) → IsPlant plant → (task mode : ℕ) (events : List Event) (state : MachineState) → task < length plant.system.tasks
    → IsRun plant.image plant.system mode events state → Agrees plant task mode events state
agrees plant is task mode [] state exists run =
    mapped_some (λ active. 0) (task_state (initial plant.system mode) task) ∙ ap (λ (k : Kernel). is_some (task_state k task)) (sym run.kernel)
agrees plant is task mode (event ∷ earlier) state exists run =
    let tasks = (room_in plant is mode earlier run.0 run.1).tasks in
    agrees_on plant task mode event earlier run.0 state (omega arith) run.2 (agrees plant is task mode earlier run.0 exists run.1)

-- A step that starts a task of which an activation hasn't ended ends that one.
pub ends_first : (plant : PlantData) (task mode : ℕ) (event : Event) (earlier : List Event) (before after : MachineState) (since : ℕ)
    → Step plant.image plant.system event before after → Agrees plant task mode earlier before
    → active_since plant.system mode task earlier ≡ Some since → started_by event ≡ Some (contexts.Task task) → ended_by event ≡ Some (contexts.Task task)
ends_first plant task mode event earlier before after since step agree known starts =
    by event step starts
  where
    is : IsActive before.kernel (contexts.Task task)
    is = sym agree ∙ ap is_some known

    none_active : task_state before.kernel task ≡ None → ⊥
    none_active none = let wrong : false ≡ true = sym (ap is_some none) ∙ is in cc

    by : (e : Event) → Step plant.image plant.system e before after → started_by e ≡ Some (contexts.Task task) → ended_by e ≡ Some (contexts.Task task)
    by (Arrive arrival) s e = absurd (none-some (contexts.Task task) e)
    by (Take taking) s e = absurd ((take_active plant.system taking before plant.image after s).fresh_start (contexts.Task task) (sym s.started ∙ e) is)
    by (Execute execution) s e = absurd (none-some (contexts.Task task) e)
    by (Serve call) s e = elim ((serve_active plant.system call before plant.image after s).again task
        (activated_is (served_by plant.system call before).reply.activated task
        (ap (λ (r : Reply). option_map contexts.Task r.activated) (sym s.replied) ∙ e))) [
          | inl none ↦ absurd (none_active none)
          | inr ends ↦ ap (λ (r : Reply). r.ended) s.replied ∙ ends
        ]
    by (Idle cycles) s e = absurd (none-some (contexts.Task task) e)
