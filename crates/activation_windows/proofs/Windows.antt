-- What every open window keeps: its task is active, there is one place a context, and the context that runs doesn't
-- wait.
use Rattle.std.proofs.Common.{◌≡◌, ℕ, true, false, List, [], ◌∷◌, length, map, Option, Some, None, refl, sym, ◌∙◌, ap, subst, arith}
use Rattle.std.specs.Prelude.{is_some, option_map}
use Rattle.std.proofs.lemmas.List.{length-map}
use Rattle.std.proofs.lemmas.List.FromFn.{length-map-range_with_len}
use Rattle.std.proofs.lemmas.Option.{none-some, same_Some}
use Rattle.oil_model.specs.declared.system.System.{System}
use Rattle.osek_kernel.specs.declared.context.Context.{Context}
use Rattle.osek_kernel.specs.declared.context.Context.TheVariants as contexts
use Rattle.osek_kernel.specs.declared.kernel.Kernel.{Kernel}
use Rattle.osek_kernel.specs.declared.kernel.Reply.{Reply}
use Rattle.osek_kernel.specs.Contexts.{IsContext, context_at, context_count}
use Rattle.osek_kernel.specs.Kernel.{IsActive, is_locked}
use Rattle.osek_kernel.specs.Laws.{ServesActive, TakesActive}
use Rattle.osek_kernel.specs.Positions.{position_of, placed, started, answered}
use Rattle.osek_kernel.specs.Running.{runs}
use Rattle.osek_kernel.specs.Sources.{source_at}
use Rattle.osek_kernel.specs.Taken as kernels
use Rattle.osek_kernel.proofs.Serves.{services_keep_active}
use Rattle.osek_kernel.proofs.Theorems.{the_first_runs, dispatch_keeps_active}
use Rattle.osek_machine.specs.State.{MachineState}
use Rattle.osek_machine.specs.Events.{Event, Taking, ServiceCall, Arrive, Take, Execute, Serve, Idle, started_by, ended_by}
use Rattle.osek_machine.specs.Loops.{is_this}
use Rattle.osek_machine.specs.Steps.{Step, Takes, Serves, taken_by, served_by, argument_in}
use Rattle.osek_machine.proofs.Kept.{takes_active, open_none, running_exists}
use Rattle.osek_machine.proofs.Placing.{placed_here, placed_count}
use Rattle.wcet_atomic_blocks.specs.Plants.{PlantData}
use Rattle.abstract_sched.specs.declared.states.AbsState.{AbsState}
use Rattle.scheduler_moves.specs.Moves.{is_active}
use Rattle.row_build.specs.Columns.{Column, Starts, In, Stands}
use Rattle.activation_windows.specs.Counted.{IsDeclaredCase}
use Rattle.activation_windows.specs.Windows.{Window, running_after, nodes_after, entry_node, start_node, node_after, waiting_after, run_in, opened, gone_on, open_window, start_by}
use Rattle.activation_windows.proofs.Induction.{IsLater, Inducts, covers_of, is_this_one, kernel_is, of_open}

-- ---- Counts of positions

pub started_count : {P : Type 0} (system : System) (entry : Context → Option P) (who : Option Context) (xs : List (Option P))
    → length (started system entry who xs) ≡ length xs
started_count system entry None xs = refl
started_count system entry (Some c) xs = placed_count system c (entry c) xs

pub answered_count : {P : Type 0} (system : System) (entry : Context → Option P) (caller : Context) (next : Option P) (reply : Reply) (xs : List (Option P))
    → length (answered system entry caller next reply xs) ≡ length xs
answered_count system entry caller next reply xs =
    started_count system entry (option_map contexts.Task reply.activated) (placed system caller _ xs) ∙ placed_count system caller _ xs

-- there is a node, or none, for each context
pub nodes_count : (plant : PlantData) (mode : ℕ) (events : List Event) → length (nodes_after plant mode events) ≡ context_count plant.system
nodes_count plant mode [] =
    length-map-range_with_len (λ n. start_node plant (kernels.initial plant.system mode) (context_at plant.system n)) 0 (context_count plant.system)
nodes_count plant mode (Arrive arrival ∷ earlier) = nodes_count plant mode earlier
nodes_count plant mode (Take taking ∷ earlier) =
    started_count plant.system (entry_node plant) taking.started (nodes_after plant mode earlier) ∙ nodes_count plant mode earlier
nodes_count plant mode (Execute execution ∷ earlier) =
    placed_count plant.system execution.context _ (nodes_after plant mode earlier) ∙ nodes_count plant mode earlier
nodes_count plant mode (Serve call ∷ earlier) =
    answered_count plant.system (entry_node plant) call.caller (node_after plant call) call.reply (nodes_after plant mode earlier)
    ∙ nodes_count plant mode earlier
nodes_count plant mode (Idle cycles ∷ earlier) = nodes_count plant mode earlier

pub waiting_count : (plant : PlantData) (event : Event) (waiting : List (Option Column)) → length (waiting_after plant event waiting) ≡ length waiting
waiting_count plant (Arrive arrival) waiting = refl
waiting_count plant (Take taking) waiting = started_count plant.system _ taking.started waiting
waiting_count plant (Execute execution) waiting = refl
waiting_count plant (Serve call) waiting = answered_count plant.system _ call.caller _ call.reply waiting
waiting_count plant (Idle cycles) waiting = refl

pub run_in_count : (plant : PlantData) (who : Option Context) (window : Window) → length (run_in plant who window).waiting ≡ length window.waiting
run_in_count plant None window = refl
run_in_count plant (Some context) window = placed_count plant.system context None window.waiting

-- ---- The context that runs exists, and doesn't wait

pub runner_exists : (plant : PlantData) (states : List AbsState) (task mode : ℕ) (events : List Event) (state : MachineState) (context : Context)
    → IsDeclaredCase plant states task mode events state → running_after plant mode events ≡ Some context → IsContext plant.system context
runner_exists plant states task mode events state context case e =
    running_exists plant.system state context (covers_of plant states task mode events state case).room
    (ap (runs plant.system) (sym (kernel_is plant mode events state case.of.run)) ∙ e)

run_in_ran : (plant : PlantData) (who : Option Context) (window : Window) (context : Context) → who ≡ Some context → IsContext plant.system context
    → length window.waiting ≡ context_count plant.system → position_of plant.system (run_in plant who window).waiting context ≡ None
run_in_ran plant None window context e exists count = absurd (none-some context e)
run_in_ran plant (Some other) window context e exists count =
    ap (λ (c : Context). position_of plant.system (placed plant.system c None window.waiting) context) (same_Some other context e)
    ∙ placed_here plant.system context None window.waiting exists count

-- ---- The task stays active

at_start : (kernel : Kernel) (task : ℕ) → is_active kernel (contexts.Task task) ≡ true → IsActive kernel (contexts.Task task)
at_start kernel task e = e

-- after a source is taken
pub take_active : (system : System) (taking : Taking) (before : MachineState) → (image : _) (after : MachineState)
    → Takes image system taking before after → TakesActive before.kernel (taken_by system taking.source before)
take_active system taking before image after step =
    takes_active system before.kernel (source_at system taking.source) (open_none before.kernel.isr (is_locked before.kernel) step.interrupts)

-- after a service
pub serve_active : (system : System) (call : ServiceCall) (before : MachineState) → (image : _) (after : MachineState)
    → Serves image system call before after → ServesActive before.kernel call.caller (served_by system call before)
serve_active system call before image after step =
    services_keep_active system before.kernel call.caller call.service (argument_in call.before)
    ((the_first_runs system before.kernel).active call.caller step.running)

pub stays_active : (plant : PlantData) (event : Event) (before after : MachineState) (context : Context)
    → Step plant.image plant.system event before after
    → (ended_by event ≡ Some context → ⊥) → IsActive before.kernel context → IsActive after.kernel context
stays_active plant (Arrive arrival) before after context step on is = subst (λ (s : MachineState). IsActive s.kernel context) (sym step.becomes) is
stays_active plant (Take taking) before after context step on is = subst (λ (s : MachineState). IsActive s.kernel context) (sym step.becomes)
    ((dispatch_keeps_active plant.system (taken_by plant.system taking.source before).kernel).stays context
    ((take_active plant.system taking before plant.image after step).stays context is))
stays_active plant (Execute execution) before after context step on is = subst (λ (s : MachineState). IsActive s.kernel context) (sym step.becomes) is
stays_active plant (Serve call) before after context step on is = subst (λ (s : MachineState). IsActive s.kernel context) (sym step.becomes)
    ((dispatch_keeps_active plant.system (served_by plant.system call before).kernel).stays context
    ((serve_active plant.system call before plant.image after step).stays context is
    (λ ends. on (ap (λ (r : Reply). r.ended) step.replied ∙ ends))))
stays_active plant (Idle cycles) before after context step on is = subst (λ (s : MachineState). IsActive s.kernel context) (sym step.becomes) is

activated_is : (t u : Option ℕ) (task : ℕ) → option_map contexts.Task t ≡ Some (contexts.Task task) → t ≡ Some task
activated_is None u task e = absurd (none-some (contexts.Task task) e)
activated_is (Some t) u task e = let same : contexts.Task t ≡ contexts.Task task = same_Some (contexts.Task t) (contexts.Task task) e in ap Some cc

-- a task that a step starts is active behind it
pub started_active : (plant : PlantData) (states : List AbsState) (task mode : ℕ) (event : Event) (earlier : List Event) (before after : MachineState)
    → IsLater plant states task mode event earlier before after
    → started_by event ≡ Some (contexts.Task task) → IsActive after.kernel (contexts.Task task)
started_active plant states task mode (Arrive arrival) earlier before after later e = absurd (none-some (contexts.Task task) e)
started_active plant states task mode (Take taking) earlier before after later e =
    let tasks = (covers_of plant states task mode earlier before later.case).room.tasks in
    subst (λ (s : MachineState). IsActive s.kernel (contexts.Task task)) (sym later.step.becomes)
    ((dispatch_keeps_active plant.system (taken_by plant.system taking.source before).kernel).stays (contexts.Task task)
    (ap is_some ((take_active plant.system taking before plant.image after later.step).begins task
    (let within = later.case.exists in omega arith) (sym later.step.started ∙ e))))
started_active plant states task mode (Execute execution) earlier before after later e = absurd (none-some (contexts.Task task) e)
started_active plant states task mode (Serve call) earlier before after later e =
    let tasks = (covers_of plant states task mode earlier before later.case).room.tasks in
    let done = served_by plant.system call before in
    subst (λ (s : MachineState). IsActive s.kernel (contexts.Task task)) (sym later.step.becomes)
    ((dispatch_keeps_active plant.system done.kernel).stays (contexts.Task task)
    (ap is_some ((serve_active plant.system call before plant.image after later.step).begins task
    (let within = later.case.exists in omega arith)
    (activated_is done.reply.activated None task (ap (λ (r : Reply). option_map contexts.Task r.activated) (sym later.step.replied) ∙ e)))))
started_active plant states task mode (Idle cycles) earlier before after later e = absurd (none-some (contexts.Task task) e)

-- ---- Every open window

-- What every open window keeps.
pub record IsWhole (plant : PlantData) (task mode : ℕ) (events : List Event) (state : MachineState) (window : Window) : Type 0 where
  pub active : IsActive state.kernel (contexts.Task task)
  pub count : length window.waiting ≡ context_count plant.system
  pub ran : (context : Context) → running_after plant mode events ≡ Some context → position_of plant.system window.waiting context ≡ None

pub goes_unended : (task : ℕ) (event : Event) → is_this (contexts.Task task) (ended_by event) ≡ false → ended_by event ≡ Some (contexts.Task task) → ⊥
goes_unended task event is e = let wrong : true ≡ false = sym (is_this_one (contexts.Task task) (ended_by event) e) ∙ is in cc

opened_whole : (plant : PlantData) (states : List AbsState) (task mode : ℕ) (start : Option Column) (events : List Event) (state : MachineState)
    → IsDeclaredCase plant states task mode events state → IsActive state.kernel (contexts.Task task)
    → IsWhole plant task mode events state (opened plant mode start events)
opened_whole plant states task mode start events state case is =
    let count : length (map (λ (node : Option ℕ). option_map Stands node) (nodes_after plant mode events)) ≡ context_count plant.system =
    length-map (nodes_after plant mode events) (λ (node : Option ℕ). option_map Stands node) ∙ nodes_count plant mode events in
    record {
      active = is;
      count = run_in_count plant (running_after plant mode events) _ ∙ count;
      ran = λ context e. run_in_ran plant (running_after plant mode events) _ context e
          (runner_exists plant states task mode events state context case e) count;
    }

gone_on_whole : (plant : PlantData) (states : List AbsState) (task mode : ℕ) (event : Event) (earlier : List Event) (before after : MachineState)
    (window : Window)
    → IsLater plant states task mode event earlier before after
    → is_this (contexts.Task task) (ended_by event) ≡ false → IsWhole plant task mode earlier before window
    → IsWhole plant task mode (event ∷ earlier) after (gone_on plant mode event earlier window)
gone_on_whole plant states task mode event earlier before after window later on was =
    let count = waiting_count plant event window.waiting ∙ was.count in
    record {
      active = stays_active plant event before after (contexts.Task task) later.step (goes_unended task event on) was.active;
      count = run_in_count plant (running_after plant mode (event ∷ earlier)) _ ∙ count;
      ran = λ context e. run_in_ran plant (running_after plant mode (event ∷ earlier)) _ context e
          (runner_exists plant states task mode (event ∷ earlier) after context later.whole e) count;
    }

pub windows_are_whole : (plant : PlantData) (states : List AbsState) (task mode : ℕ) → Inducts plant states task mode (IsWhole plant task mode)
windows_are_whole plant states task mode = record {
  starts = λ state case is. opened_whole plant states task mode (Some (Starts (In mode))) [] state case
      (subst (λ (k : Kernel). IsActive k (contexts.Task task)) (kernel_is plant mode [] state case.of.run) is);
  begins = λ event earlier before after later is. opened_whole plant states task mode (start_by plant mode event earlier) (event ∷ earlier) after later.whole
      (started_active plant states task mode event earlier before after later is);
  goes_on = λ event earlier before after window later new on is_open was. gone_on_whole plant states task mode event earlier before after window
      later on was;
}

pub is_whole : (plant : PlantData) (states : List AbsState) (task mode : ℕ) (events : List Event) (state : MachineState) (window : Window)
    → IsDeclaredCase plant states task mode events state → open_window plant task mode events ≡ Some window
    → IsWhole plant task mode events state window
is_whole plant states task mode events state window case e =
    of_open plant states task mode (IsWhole plant task mode) (windows_are_whole plant states task mode) events state window case e
