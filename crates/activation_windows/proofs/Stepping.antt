-- What the steps of a run say: a step is a move, which ends the context that the step ends and activates the one that it
-- starts, or it starts and ends nobody.
use Rattle.std.proofs.Common.{◌≡◌, ℕ, ◌⊎◌, inl, inr, Bool, true, false, List, ◌∷◌, length, Option, Some, None, refl, sym, ◌∙◌, ap, subst, IsSome, is_some}
use Rattle.std.specs.Prelude.{not, ◌&&◌, ◌||◌, option_map}
use Rattle.std.proofs.lemmas.Option.{none-some, same_Some}
use Rattle.oil_model.specs.declared.system.System.{System}
use Rattle.osek_kernel.specs.declared.context.Context.{Context}
use Rattle.osek_kernel.specs.declared.context.Context.TheVariants as contexts
use Rattle.osek_kernel.specs.declared.kernel.Kernel.{Kernel}
use Rattle.osek_kernel.specs.declared.kernel.Reply.{Reply}
use Rattle.osek_kernel.specs.Contexts.{IsContext, context_count}
use Rattle.osek_kernel.specs.Kernel.{IsActive, task_state}
use Rattle.osek_kernel.specs.Positions.{ArePositions, position_of, started}
use Rattle.osek_kernel.specs.Running.{runs}
use Rattle.osek_machine.specs.State.{MachineState}
use Rattle.osek_machine.specs.Events.{Taking, ServiceCall, Event, Arrive, Take, Execute, Serve, Idle, started_by, ended_by}
use Rattle.osek_machine.specs.Loops.{is_this}
use Rattle.osek_machine.specs.Steps.{Takes, Serves, argument_in}
use Rattle.osek_machine.proofs.Kept.{running_exists, served_exists}
use Rattle.osek_machine.proofs.Placing.{placed_here, placed_count}
use Rattle.wcet_atomic_blocks.specs.Plants.{PlantData}
use Rattle.abstract_sched.specs.declared.states.AbsState.{AbsState}
use Rattle.abstract_sched.specs.States.{kernel_of}
use Rattle.scheduler_moves.specs.declared.moves.MoveLabel.{MoveLabel}
use Rattle.scheduler_moves.specs.declared.moves.MoveLabel.TheVariants as labels
use Rattle.scheduler_moves.specs.Moves.{blocks_in, entry_block, is_active, running_in}
use Rattle.scheduler_moves.proofs.Composing.{CanCompose, composed_kernel, composed_positions}
use Rattle.shadow_runs.specs.Covering.{CallsAtExit}
use Rattle.shadow_runs.specs.Shadow.{begun, node_of}
use Rattle.shadow_runs.proofs.Begun.{who_exists}
use Rattle.shadow_runs.proofs.Planted.{has_entry_block}
use Rattle.shadow_runs.proofs.Stepping.{can_compose}
use Rattle.row_build.specs.Columns.{Column, Moves, Going, activates, ends_in, is_active_in}
use Rattle.activation_windows.specs.Counted.{IsDeclaredCase}
use Rattle.activation_windows.specs.Windows.{kernel_after, shadow_after, running_after, going_by, label_of, used_by, waiting_after}
use Rattle.activation_windows.proofs.Moving.{ends_too, ends_only}
use Rattle.activation_windows.proofs.Induction.{IsLater, covers_of, step_of, kernel_is, this_is}
use Rattle.activation_windows.proofs.InBlocks.{ContextsExist, newly}
use Rattle.activation_windows.proofs.Nodes.{active_test, activated_exists}
use Rattle.activation_windows.proofs.Windows.{take_active, serve_active}

-- ---- After a run

-- The kernel is the machine's, and the shadow's; the shadow's blocks are those begun last, and who runs exists.
pub record IsTold (plant : PlantData) (mode : ℕ) (events : List Event) (state : MachineState) : Type 0 where
  pub kernel : kernel_after plant mode events ≡ state.kernel
  pub own : kernel_of (shadow_after plant mode events) ≡ kernel_after plant mode events
  pub blocks : blocks_in plant (shadow_after plant mode events) ≡ begun plant mode events
  pub running : (c : Context) → running_after plant mode events ≡ Some c → IsContext plant.system c
  pub positions : ArePositions plant.system state.kernel (begun plant mode events)

pub told_of : (plant : PlantData) (states : List AbsState) (task mode : ℕ) (events : List Event) (state : MachineState)
    → IsDeclaredCase plant states task mode events state → IsTold plant mode events state
told_of plant states task mode events state case =
    let all = covers_of plant states task mode events state case in
    let kernel : kernel_after plant mode events ≡ state.kernel = kernel_is plant mode events state case.of.run in
    let can : CanCompose plant.system (kernel_after plant mode events) (begun plant mode events) =
    subst (λ (k : Kernel). CanCompose plant.system k (begun plant mode events)) (sym kernel) (can_compose plant states mode events state all) in
    record {
      kernel = kernel;
      own = composed_kernel plant.system (kernel_after plant mode events) (begun plant mode events) can;
      blocks = composed_positions plant.system (kernel_after plant mode events) (begun plant mode events) can;
      running = λ c runs_now. running_exists plant.system state c all.room (ap (runs plant.system) (sym kernel) ∙ runs_now);
      positions = all.blocks;
    }

-- ---- Tests of who is active

inactive_if : (test : Bool) → (test ≡ true → ⊥) → test ≡ false
inactive_if true not_so = absurd (not_so refl)
inactive_if false not_so = refl

pub active_in : (plant : PlantData) (mode : ℕ) (events : List Event) (state : MachineState) → IsTold plant mode events state → (c : Context)
    → IsActive state.kernel c → is_active_in (shadow_after plant mode events) c ≡ true
active_in plant mode events state all c active =
    ap (λ (k : Kernel). is_active k c) (all.own ∙ all.kernel) ∙ (active_test state.kernel c).1 active

inactive_in : (plant : PlantData) (mode : ℕ) (events : List Event) (state : MachineState) → IsTold plant mode events state → (c : Context)
    → (IsActive state.kernel c → ⊥) → is_active_in (shadow_after plant mode events) c ≡ false
inactive_in plant mode events state all c inactive =
    ap (λ (k : Kernel). is_active k c) (all.own ∙ all.kernel)
    ∙ inactive_if (is_active state.kernel c) (λ e. inactive ((active_test state.kernel c).0 e))

pub runs_in : (plant : PlantData) (mode : ℕ) (events : List Event) (state : MachineState) → IsTold plant mode events state
    → running_in plant (shadow_after plant mode events) ≡ running_after plant mode events
runs_in plant mode events state all = ap (runs plant.system) all.own

-- ---- Contexts of a step

pub contexts_exist : (plant : PlantData) (states : List AbsState) (task mode : ℕ) (event : Event) (earlier : List Event) (before after : MachineState)
    → IsLater plant states task mode event earlier before after → ContextsExist plant event
contexts_exist plant states task mode (Arrive arrival) earlier before after later = tt
contexts_exist plant states task mode (Take taking) earlier before after later =
    let step : Takes plant.image plant.system taking before after = later.step in
    λ c e. who_exists plant later.case.of.belongs taking before after (covers_of plant states task mode earlier before later.case).room step c
    (sym step.started ∙ e)
contexts_exist plant states task mode (Execute execution) earlier before after later = tt
contexts_exist plant states task mode (Serve call) earlier before after later =
    let step : Serves plant.image plant.system call before after = later.step in (
      running_exists plant.system before call.caller (covers_of plant states task mode earlier before later.case).room step.running,
      λ c e. activated_exists plant.system call.reply.activated
          (λ t h. served_exists plant.system before.kernel call.caller call.service (argument_in call.before) step.argument t
          (ap (λ (r : Reply). r.activated) (sym step.replied) ∙ h)) c e,
    )
contexts_exist plant states task mode (Idle cycles) earlier before after later = tt

-- ---- Moves end the contexts that their steps end

-- The step is a move, which ends the context that the step ends and activates the one that it starts.
pub record IsMove (plant : PlantData) (mode : ℕ) (event : Event) (earlier : List Event) : Type 0 where
  pub label : MoveLabel
  pub labelled : label_of plant event ≡ Some label
  pub used : used_by plant mode event earlier ≡ Some (Moves (going_by plant mode label event earlier))
  pub ends : (c : Context) → ends_in plant c (going_by plant mode label event earlier) ≡ is_this c (ended_by event)
  pub begins : (c : Context) → started_by event ≡ Some c → activates plant c (going_by plant mode label event earlier) ≡ true

-- The step is no move: nobody starts or ends, and the kernel stays.
pub record IsStill (plant : PlantData) (mode : ℕ) (event : Event) (earlier : List Event) : Type 0 where
  pub kernel : kernel_after plant mode (event ∷ earlier) ≡ kernel_after plant mode earlier
  pub waiting : (visits : List (Option Column)) → waiting_after plant event visits ≡ visits
  pub begins_none : (count : Column → ℕ) → newly plant count event ≡ 0
  pub labelled : label_of plant event ≡ None
  pub nobody_starts : started_by event ≡ None
  pub nobody_ends : ended_by event ≡ None

pub and_true : (test : Bool) → (test && true) ≡ test
and_true true = refl
and_true false = refl

ends_by : (plant : PlantData) (states : List AbsState) (task mode : ℕ) (label : MoveLabel) (event : Event) (earlier : List Event)
    (before after : MachineState) → IsLater plant states task mode event earlier before after → label_of plant event ≡ Some label
    → (c : Context) (ends : Bool) → is_this c (ended_by event) ≡ ends
    → ends_in plant c (going_by plant mode label event earlier) ≡ is_this c (ended_by event)
ends_by plant states task mode label event earlier before after later is_label c true e =
    ends_too plant states task mode c label event earlier before after later is_label (this_is c (ended_by event) e) ∙ sym e
ends_by plant states task mode label event earlier before after later is_label c false e =
    ends_only plant states task mode c label event earlier before after later is_label e ∙ sym e

-- ---- Moves activate the contexts that their steps start

started_here : {P : Type 0} (system : System) (entry : Context → Option P) (who : Option Context) (c : Context) (positions : List (Option P)) → who ≡ Some c
    → IsContext system c → length positions ≡ context_count system → position_of system (started system entry who positions) c ≡ entry c
started_here system entry who c positions e exists count =
    ap (λ (o : Option Context). position_of system (started system entry o positions) c) e ∙ placed_here system c (entry c) positions exists count

-- who starts begins its entry's block, so it is active
active_then : (plant : PlantData) (states : List AbsState) (task mode : ℕ) (events : List Event) (state : MachineState)
    → IsDeclaredCase plant states task mode events state → (c : Context) → IsContext plant.system c
    → position_of plant.system (begun plant mode events) c ≡ entry_block plant c → is_active_in (shadow_after plant mode events) c ≡ true
active_then plant states task mode events state case c exists begins =
    let all = told_of plant states task mode events state case in
    active_in plant mode events state all c
    ((all.positions.active c exists).0 (ap is_some (begins ∙ (has_entry_block plant case.of.belongs c exists).entered)))

passes : (to from ends : Bool) → to ≡ true → (from ≡ false) ⊎ (ends ≡ true) → (to && (not from || ends)) ≡ true
passes true false ends e fresh = refl
passes true true true e fresh = refl
passes true true false e fresh = elim fresh [ inl h ↦ absurd cc | inr h ↦ absurd cc ]
passes false from ends e fresh = absurd cc

pub take_begins : (plant : PlantData) (states : List AbsState) (task mode : ℕ) (taking : Taking) (earlier : List Event) (before after : MachineState)
    → IsLater plant states task mode (Take taking) earlier before after → (c : Context) → taking.started ≡ Some c
    → activates plant c (going_by plant mode (labels.Take taking.source) (Take taking) earlier) ≡ true
take_begins plant states task mode taking earlier before after later c e =
    let step : Takes plant.image plant.system taking before after = later.step in
    let all = told_of plant states task mode earlier before later.case in
    let exists : IsContext plant.system c = contexts_exist plant states task mode (Take taking) earlier before after later c e in
    let takes = take_active plant.system taking before plant.image after step in
    let going : Going = going_by plant mode (labels.Take taking.source) (Take taking) earlier in
    passes (is_active_in (shadow_after plant mode (Take taking ∷ earlier)) c) (is_active_in (shadow_after plant mode earlier) c) (ends_in plant c going)
    (active_then plant states task mode (Take taking ∷ earlier) after later.whole c exists
    (started_here plant.system (entry_block plant) taking.started c (begun plant mode earlier) e exists all.positions.count))
    (inl (inactive_in plant mode earlier before all c (takes.fresh_start c (sym step.started ∙ e))))

activated_task : (activated : Option ℕ) (c : Context) → option_map contexts.Task activated ≡ Some c → (t : ℕ) × (activated ≡ Some t) × (c ≡ contexts.Task t)
activated_task None c e = absurd (none-some c e)
activated_task (Some t) c e = (t, refl, sym (same_Some (contexts.Task t) c e))

none_is_none : {A : Type 0} (o : Option A) → o ≡ None → IsSome o → ⊥
none_is_none None e some = absurd cc
none_is_none (Some x) e some = none-some x (sym e)

pub serve_begins : (plant : PlantData) (states : List AbsState) (task mode : ℕ) (call : ServiceCall) (earlier : List Event) (before after : MachineState)
    → IsLater plant states task mode (Serve call) earlier before after → (node : ℕ) → node_of plant call.caller call.before ≡ Some node → (c : Context)
    → option_map contexts.Task call.reply.activated ≡ Some c → activates plant c (going_by plant mode (labels.Service node) (Serve call) earlier) ≡ true
serve_begins plant states task mode call earlier before after later node stands c e =
    let step : Serves plant.image plant.system call before after = later.step in
    let all = told_of plant states task mode earlier before later.case in
    let exists : IsContext plant.system c = (contexts_exist plant states task mode (Serve call) earlier before after later).1 c e in
    let serves = serve_active plant.system call before plant.image after step in
    let is = activated_task call.reply.activated c e in
    let going : Going = going_by plant mode (labels.Service node) (Serve call) earlier in
    passes (is_active_in (shadow_after plant mode (Serve call ∷ earlier)) c) (is_active_in (shadow_after plant mode earlier) c) (ends_in plant c going)
    (active_then plant states task mode (Serve call ∷ earlier) after later.whole c exists
    (started_here plant.system (entry_block plant) (option_map contexts.Task call.reply.activated) c _ e exists
    (placed_count plant.system call.caller _ (begun plant mode earlier) ∙ all.positions.count)))
    (elim (serves.again is.0 (ap (λ (r : Reply). r.activated) (sym step.replied) ∙ is.1)) [
      | inl none ↦ inl (inactive_in plant mode earlier before all c
          (λ active. none_is_none (task_state before.kernel is.0) none (subst (IsActive before.kernel) is.2 active)))
      | inr ended ↦ inr (ends_too plant states task mode c (labels.Service node) (Serve call) earlier before after later
          (ap (option_map labels.Service) stands) (ap (λ (r : Reply). r.ended) step.replied ∙ (ended ∙ ap Some (sym is.2))))
    ])

-- ---- Each step is a move, or still

pub moves_or_stays : (plant : PlantData) (states : List AbsState) (task mode : ℕ) (event : Event) (earlier : List Event) (before after : MachineState)
    → IsLater plant states task mode event earlier before after → IsMove plant mode event earlier ⊎ IsStill plant mode event earlier
moves_or_stays plant states task mode (Arrive arrival) earlier before after later =
    inr (record { kernel = refl; waiting = λ visits. refl; begins_none = λ count. refl; labelled = refl; nobody_starts = refl; nobody_ends = refl })
moves_or_stays plant states task mode (Take taking) earlier before after later = inl (record {
  label = labels.Take taking.source;
  labelled = refl;
  used = refl;
  ends = λ c. ends_by plant states task mode (labels.Take taking.source) (Take taking) earlier before after later refl c (is_this c None) refl;
  begins = λ c e. take_begins plant states task mode taking earlier before after later c e;
})
moves_or_stays plant states task mode (Execute execution) earlier before after later =
    inr (record { kernel = refl; waiting = λ visits. refl; begins_none = λ count. refl; labelled = refl; nobody_starts = refl; nobody_ends = refl })
moves_or_stays plant states task mode (Serve call) earlier before after later =
    let covered : CallsAtExit plant mode call earlier before after = (step_of plant states task mode (Serve call) earlier before after later).0 in
    inl (record {
      label = labels.Service covered.node;
      labelled = ap (option_map labels.Service) covered.stands;
      used = ap (λ (node : Option ℕ). option_map (λ label. Moves (going_by plant mode label (Serve call) earlier))
          (option_map labels.Service node)) covered.stands;
      ends = λ c. ends_by plant states task mode (labels.Service covered.node) (Serve call) earlier before after later
          (ap (option_map labels.Service) covered.stands) c (is_this c call.reply.ended) refl;
      begins = λ c e. serve_begins plant states task mode call earlier before after later covered.node covered.stands c e;
    })
moves_or_stays plant states task mode (Idle cycles) earlier before after later =
    inr (record { kernel = refl; waiting = λ visits. refl; begins_none = λ count. refl; labelled = refl; nobody_starts = refl; nobody_ends = refl })
