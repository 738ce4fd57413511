-- Windows along a run: what each prefix of a run keeps, the kernel and the shadow that its steps tell, and induction
-- over the windows that are open.
use Rattle.std.proofs.Common.{◌≡◌, ℕ, Bool, true, false, cond, List, [], ◌∷◌, ◌++◌, Option, Some, None, refl, sym, ◌∙◌, ap, subst}
use Rattle.std.specs.Prelude.{option_map, option_to_list}
use Rattle.std.proofs.lemmas.Bool.{eqb-true, eq-eqb}
use Rattle.std.proofs.lemmas.Option.{none-some, same_Some}
use Rattle.osek_kernel.specs.declared.context.Context.{Context}
use Rattle.osek_kernel.specs.declared.context.Context.TheVariants as contexts
use Rattle.osek_kernel.specs.declared.kernel.Kernel.{Kernel}
use Rattle.osek_kernel.specs.Running.{dispatched}
use Rattle.osek_kernel.specs.Served.{served}
use Rattle.osek_kernel.specs.Sources.{source_at}
use Rattle.osek_kernel.specs.Taken as kernels
use Rattle.osek_machine.specs.State.{MachineState}
use Rattle.osek_machine.specs.Events.{Event, Arrive, Take, Execute, Serve, Idle, started_by, ended_by}
use Rattle.osek_machine.specs.Steps.{Step, argument_in}
use Rattle.osek_machine.specs.Runs.{IsRun}
use Rattle.osek_machine.specs.Activations.{active_since}
use Rattle.osek_machine.specs.Declarations.{IsDeclared, ReturnsPaired}
use Rattle.osek_machine.specs.Loops.{same_context, is_this}
use Rattle.osek_machine.proofs.Times.{prefixes_are_declared}
use Rattle.wcet_atomic_blocks.specs.Plants.{PlantData}
use Rattle.abstract_sched.specs.declared.states.AbsState.{AbsState}
use Rattle.scheduler_moves.specs.Composed.{composed}
use Rattle.scheduler_moves.specs.Moves.{is_active}
use Rattle.graph_runs.specs.Walking.{IsNoMisuse}
use Rattle.shadow_runs.specs.Covering.{IsCovered, StepIsCovered}
use Rattle.shadow_runs.specs.Shadow.{begun, shadow}
use Rattle.shadow_runs.proofs.Covering.{covers, runs_are_covered, steps_are_covered}
use Rattle.shadow_runs.proofs.Stepping.{Covers}
use Rattle.row_build.specs.Columns.{Column, Starts, In}
use Rattle.activation_windows.specs.Counted.{IsDeclaredCase, IsUsed, while_open, closed_now}
use Rattle.activation_windows.specs.Windows.{Window, kernel_after, shadow_after, opened, gone_on, open_window, start_by, used_by}

-- ---- Contexts are this one

same_is : (c d : Context) → same_context c d ≡ true → c ≡ d
same_is (contexts.Task a) (contexts.Task b) e = ap contexts.Task (eqb-true a b e)
same_is (contexts.Isr a) (contexts.Isr b) e = ap contexts.Isr (eqb-true a b e)
same_is (contexts.Task a) (contexts.Isr b) e = absurd cc
same_is (contexts.Isr a) (contexts.Task b) e = absurd cc

pub same_itself : (c : Context) → same_context c c ≡ true
same_itself (contexts.Task a) = eq-eqb a a refl
same_itself (contexts.Isr a) = eq-eqb a a refl

pub this_is : (c : Context) (who : Option Context) → is_this c who ≡ true → who ≡ Some c
this_is c None e = absurd cc
this_is c (Some d) e = ap Some (sym (same_is c d e))

pub is_this_one : (c : Context) (who : Option Context) → who ≡ Some c → is_this c who ≡ true
is_this_one c who e = ap (is_this c) e ∙ same_itself c

-- ---- What the prefixes of a run keep

-- A declared run whose newest step leads from one state to another.
pub record IsLater (plant : PlantData) (states : List AbsState) (task mode : ℕ) (event : Event) (earlier : List Event) (before after : MachineState)
    : Type 0 where
  pub case : IsDeclaredCase plant states task mode earlier before
  pub step : Step plant.image plant.system event before after
  pub pairs : ReturnsPaired plant.image event
  pub declared : IsDeclared plant.image plant.system plant.timing (event ∷ earlier)
  pub whole : IsDeclaredCase plant states task mode (event ∷ earlier) after

pub later_of : (plant : PlantData) (states : List AbsState) (task mode : ℕ) (event : Event) (earlier : List Event) (after : MachineState)
    → IsDeclaredCase plant states task mode (event ∷ earlier) after
    → (before : MachineState) × IsLater plant states task mode event earlier before after
later_of plant states task mode event earlier after case =
    let of = case.of in (
      of.run.0,
      record {
        case = record {
          of = record { belongs = of.belongs; closed = of.closed; run = of.run.1; pairs = of.pairs.1 };
          declared = prefixes_are_declared plant.image plant.system plant.timing event earlier case.declared;
          once = case.once;
          exists = case.exists;
        };
        step = of.run.2;
        pairs = of.pairs.0;
        declared = case.declared;
        whole = case;
      },
    )

-- what the simulation says after a run, and of a step
pub covered_of : (plant : PlantData) (states : List AbsState) (task mode : ℕ) (events : List Event) (state : MachineState)
    → IsDeclaredCase plant states task mode events state → IsCovered plant states mode events state
covered_of plant states task mode events state case = runs_are_covered plant states mode events state case.of

pub covers_of : (plant : PlantData) (states : List AbsState) (task mode : ℕ) (events : List Event) (state : MachineState)
    → IsDeclaredCase plant states task mode events state → Covers plant states mode events state
covers_of plant states task mode events state case =
    (covers plant states mode events state case.of.belongs case.of.closed case.of.run case.of.pairs).0

pub step_of : (plant : PlantData) (states : List AbsState) (task mode : ℕ) (event : Event) (earlier : List Event) (before after : MachineState)
    → IsLater plant states task mode event earlier before after
    → StepIsCovered plant mode event earlier before after × IsNoMisuse event
step_of plant states task mode event earlier before after later =
    steps_are_covered plant states mode event earlier before after (record { before_it = later.case.of; step = later.step; pairs = later.pairs })

-- ---- The kernel and the shadow that the steps tell

pub kernel_is : (plant : PlantData) (mode : ℕ) (events : List Event) (state : MachineState) → IsRun plant.image plant.system mode events state
    → kernel_after plant mode events ≡ state.kernel
kernel_is plant mode [] state run = sym run.kernel
kernel_is plant mode (Arrive arrival ∷ earlier) state run =
    kernel_is plant mode earlier run.0 run.1 ∙ ap (λ (s : MachineState). s.kernel) (sym run.2.becomes)
kernel_is plant mode (Take taking ∷ earlier) state run =
    ap (λ (k : Kernel). dispatched plant.system (kernels.taken plant.system k (source_at plant.system taking.source)).kernel)
    (kernel_is plant mode earlier run.0 run.1)
    ∙ ap (λ (s : MachineState). s.kernel) (sym run.2.becomes)
kernel_is plant mode (Execute execution ∷ earlier) state run =
    kernel_is plant mode earlier run.0 run.1 ∙ ap (λ (s : MachineState). s.kernel) (sym run.2.becomes)
kernel_is plant mode (Serve call ∷ earlier) state run =
    ap (λ (k : Kernel). dispatched plant.system (served plant.system k call.caller call.service (argument_in call.before)).kernel)
    (kernel_is plant mode earlier run.0 run.1)
    ∙ ap (λ (s : MachineState). s.kernel) (sym run.2.becomes)
kernel_is plant mode (Idle cycles ∷ earlier) state run =
    kernel_is plant mode earlier run.0 run.1 ∙ ap (λ (s : MachineState). s.kernel) (sym run.2.becomes)

pub shadow_is : (plant : PlantData) (mode : ℕ) (events : List Event) (state : MachineState) → IsRun plant.image plant.system mode events state
    → shadow_after plant mode events ≡ shadow plant mode events state
shadow_is plant mode events state run =
    ap (λ (k : Kernel). composed plant.system k (begun plant mode events)) (kernel_is plant mode events state run)

-- ---- Induction over open windows

-- A property of an open window, of the run so far and of its state: at the start of the run, at a step that starts the
-- task, and at each other step that doesn't end it.
pub record Inducts (plant : PlantData) (states : List AbsState) (task mode : ℕ) (P : List Event → MachineState → Window → Type 0) : Type 0 where
  pub starts : (state : MachineState) → IsDeclaredCase plant states task mode [] state
      → is_active (kernels.initial plant.system mode) (contexts.Task task) ≡ true
      → P [] state (opened plant mode (Some (Starts (In mode))) [])
  pub begins : (event : Event) (earlier : List Event) (before after : MachineState) → IsLater plant states task mode event earlier before after
      → started_by event ≡ Some (contexts.Task task)
      → P (event ∷ earlier) after (opened plant mode (start_by plant mode event earlier) (event ∷ earlier))
  pub goes_on : (event : Event) (earlier : List Event) (before after : MachineState) (window : Window)
      → IsLater plant states task mode event earlier before after
      → is_this (contexts.Task task) (started_by event) ≡ false → is_this (contexts.Task task) (ended_by event) ≡ false
      → open_window plant task mode earlier ≡ Some window → P earlier before window
      → P (event ∷ earlier) after (gone_on plant mode event earlier window)

start_holds : (plant : PlantData) (states : List AbsState) (task mode : ℕ) (P : List Event → MachineState → Window → Type 0)
    → Inducts plant states task mode P → (state : MachineState) (window : Window) → IsDeclaredCase plant states task mode [] state
    → (active : Bool) → is_active (kernels.initial plant.system mode) (contexts.Task task) ≡ active
    → cond active (Some (opened plant mode (Some (Starts (In mode))) [])) None ≡ Some window → P [] state window
start_holds plant states task mode P inducts state window case true is e =
    subst (P [] state) (same_Some _ window e) (inducts.starts state case is)
start_holds plant states task mode P inducts state window case false is e = absurd (none-some window e)

step_holds : (plant : PlantData) (states : List AbsState) (task mode : ℕ) (P : List Event → MachineState → Window → Type 0)
    → Inducts plant states task mode P → (event : Event) (earlier : List Event) (before after : MachineState) (window : Window)
    → IsLater plant states task mode event earlier before after
    → ((earlier_one : Window) → open_window plant task mode earlier ≡ Some earlier_one → P earlier before earlier_one)
    → (starts ends : Bool) → is_this (contexts.Task task) (started_by event) ≡ starts → is_this (contexts.Task task) (ended_by event) ≡ ends
    → (known : Option Window) → open_window plant task mode earlier ≡ known
    → cond starts (Some (opened plant mode (start_by plant mode event earlier) (event ∷ earlier)))
    (cond ends None (option_map (gone_on plant mode event earlier) known)) ≡ Some window
    → P (event ∷ earlier) after window
step_holds plant states task mode P inducts event earlier before after window later held true ends is ending known is_open e =
    subst (P (event ∷ earlier) after) (same_Some _ window e)
    (inducts.begins event earlier before after later (this_is (contexts.Task task) (started_by event) is))
step_holds plant states task mode P inducts event earlier before after window later held false true is ending known is_open e =
    absurd (none-some window e)
step_holds plant states task mode P inducts event earlier before after window later held false false is ending None is_open e =
    absurd (none-some window e)
step_holds plant states task mode P inducts event earlier before after window later held false false is ending (Some one) is_open e =
    subst (P (event ∷ earlier) after) (same_Some _ window e)
    (inducts.goes_on event earlier before after one later is ending is_open (held one is_open))

-- So it holds of every open window.
pub of_open : (plant : PlantData) (states : List AbsState) (task mode : ℕ) (P : List Event → MachineState → Window → Type 0)
    → Inducts plant states task mode P → (events : List Event) (state : MachineState) (window : Window)
    → IsDeclaredCase plant states task mode events state → open_window plant task mode events ≡ Some window → P events state window
of_open plant states task mode P inducts [] state window case e =
    start_holds plant states task mode P inducts state window case (is_active (kernels.initial plant.system mode) (contexts.Task task)) refl e
of_open plant states task mode P inducts (event ∷ earlier) state window case e =
    let later = later_of plant states task mode event earlier state case in
    step_holds plant states task mode P inducts event earlier later.0 state window later.1
    (λ one is_open. of_open plant states task mode P inducts earlier later.0 one later.1.case is_open)
    (is_this (contexts.Task task) (started_by event)) (is_this (contexts.Task task) (ended_by event)) refl refl
    (open_window plant task mode earlier) refl e

-- ---- What is used

-- A property of what is used, of the run and of its state: while a window is open, and at the step that closes it.
pub record OfUses (plant : PlantData) (states : List AbsState) (task mode : ℕ) (R : List Event → MachineState → List Column → ℕ → Type 0) : Type 0 where
  pub while_it_is_open : (events : List Event) (state : MachineState) (window : Window) (since : ℕ)
      → IsDeclaredCase plant states task mode events state
      → open_window plant task mode events ≡ Some window → active_since plant.system mode task events ≡ Some since
      → R events state window.uses since
  pub closes : (event : Event) (earlier : List Event) (before after : MachineState) (window : Window) (since : ℕ)
      → IsLater plant states task mode event earlier before after → ended_by event ≡ Some (contexts.Task task)
      → open_window plant task mode earlier ≡ Some window → active_since plant.system mode task earlier ≡ Some since
      → R (event ∷ earlier) after (option_to_list (used_by plant mode event earlier) ++ window.uses) since

-- a window of these uses is open
open_uses : (known : Option Window) (uses : List Column) → option_map (λ window. window.uses) known ≡ Some uses
    → (window : Window) × (known ≡ Some window) × (window.uses ≡ uses)
open_uses None uses e = absurd (none-some uses e)
open_uses (Some window) uses e = (window, refl, same_Some window.uses uses e)

closing_uses : (last : List Column) (ends : Bool) (known : Option Window) (uses : List Column)
    → cond ends (option_map (λ window. last ++ window.uses) known) None ≡ Some uses
    → (window : Window) × (ends ≡ true) × (known ≡ Some window) × (last ++ window.uses ≡ uses)
closing_uses last false known uses e = absurd (none-some uses e)
closing_uses last true None uses e = absurd (none-some uses e)
closing_uses last true (Some window) uses e = (window, refl, refl, same_Some (last ++ window.uses) uses e)

pub of_used : (plant : PlantData) (states : List AbsState) (task mode : ℕ) (R : List Event → MachineState → List Column → ℕ → Type 0)
    → OfUses plant states task mode R → (events : List Event) (state : MachineState) (uses : List Column) (since : ℕ)
    → IsDeclaredCase plant states task mode events state → IsUsed plant task mode events uses since → R events state uses since
of_used plant states task mode R all events state uses since case (while_open _ _ _ is_open active) =
    let window = open_uses (open_window plant task mode events) uses is_open in
    subst (λ (us : List Column). R events state us since) window.2 (all.while_it_is_open events state window.0 since case window.1 active)
of_used plant states task mode R all _ state uses since case (closed_now event earlier _ _ closed active) =
    let later = later_of plant states task mode event earlier state case in
    let window = closing_uses (option_to_list (used_by plant mode event earlier)) (is_this (contexts.Task task) (ended_by event))
    (open_window plant task mode earlier) uses closed in
    subst (λ (us : List Column). R (event ∷ earlier) state us since) window.3
    (all.closes event earlier later.0 state window.0 since later.1 (this_is (contexts.Task task) (ended_by event) window.1) window.2 active)
