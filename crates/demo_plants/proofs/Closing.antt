-- The states of a generated system are closed.
use Rattle.std.proofs.Common.{◌≡◌, ℕ, zero, suc, ◌+◌, ◌<◌, ◌≤◌, Bool, true, false, not, List, [], ◌∷◌, ◌++◌, length, map, replicate, All, Option, Some, None, Result, Ok, Err, refl, sym, ap, ◌∙◌, subst, arith}
use Rattle.std.specs.Prelude.{slice_get, slice_set, is_some, filter_map, Contains, nat_lt, slice_index_or, option_map}
use Rattle.std.specs.List.{range_with_len, AllByRecursion, cons_option}
use Rattle.std.proofs.lemmas.Bool.{lt-ltb}
use Rattle.std.proofs.lemmas.List.{length-map, length-set, length-replicate, append-nil}
use Rattle.std.proofs.lemmas.List.Elements.{All-from_recursion, All-append, All-map, All-filter}
use Rattle.std.proofs.lemmas.List.FromFn.{length-map-range_with_len}
use Rattle.std.proofs.lemmas.Option.{same_Some}
use Rattle.listed.specs.Lists.{all_of, each_from}
use Rattle.rv32_machine.specs.declared.turns.ServiceAt.{ServiceAt}
use Rattle.oil_model.specs.declared.system.System.{System}
use Rattle.osek_kernel.specs.declared.context.Context.{Context}
use Rattle.osek_kernel.specs.declared.context.Context.TheVariants as contexts
use Rattle.osek_kernel.specs.declared.kernel.Active.{Active}
use Rattle.osek_kernel.specs.declared.kernel.Kernel.{Kernel}
use Rattle.osek_kernel.specs.declared.service.Service.TheVariants.{TerminateTask}
use Rattle.osek_kernel.specs.Contexts.{context_at, context_count}
use Rattle.osek_kernel.specs.Kernel.{task_state, held_in, suspend, fresh, activate, states_at_start, autostarted}
use Rattle.osek_kernel.specs.Services.{service_of}
use Rattle.osek_kernel.specs.Running.{inner_ceiling, raise, dispatched, runs}
use Rattle.osek_kernel.specs.Served.{Served, served, ends, is_suspended}
use Rattle.osek_kernel.specs.Sources.{source_count}
use Rattle.osek_kernel.specs.Taken as kernels
use Rattle.flow_graph.specs.declared.flow.Flow.{Flow}
use Rattle.flow_graph.specs.declared.flow.Leaving.{Leaving}
use Rattle.wcet_atomic_blocks.specs.declared.block.Blocks.{Blocks}
use Rattle.wcet_atomic_blocks.specs.Plants.{PlantData, IsPlant, IsPlantOf}
use Rattle.abstract_sched.specs.declared.states.AbsState.{AbsState}
use Rattle.abstract_sched.specs.declared.states.TaskAt.{TaskAt}
use Rattle.abstract_sched.specs.States.{kernel_of}
use Rattle.scheduler_moves.specs.declared.moves.Misuse.{Misuse}
use Rattle.scheduler_moves.specs.declared.moves.Move.{Move}
use Rattle.scheduler_moves.specs.declared.moves.MoveLabel.TheVariants as labels
use Rattle.scheduler_moves.specs.Composed as composing
use Rattle.scheduler_moves.specs.Closed.{AreListed, MovesStay, IsClosed}
use Rattle.scheduler_moves.specs.Moves.{initial, start_block, live_sources, take_move, after_take, takes, Serving, serving_at, after_service, service_move, exits_in, servings, services, successors}
use Rattle.demo_gen.specs.declared.task.DemoTask.{DemoTask}
use Rattle.demo_gen.specs.Draws.{base}
use Rattle.demo_gen.specs.Demo.{system_task, system_alarm, the_image, the_system, the_timing, tasks_at, state_of, the_states}
use Rattle.demo_gen.specs.Working.Drawn.{AreDrawn}
use Rattle.demo_plants.specs.Laws.{IsCovered, AreCovered}
use Rattle.demo_plants.proofs.CodeOf.{mapped_at}
use Rattle.demo_plants.proofs.EntriesOf.{number_at}
use Rattle.demo_plants.proofs.Listing.{listed, HasSet, has_set, actives, blocks, composed_tasks, started_tasks, ended_tasks, no_tasks}
use Rattle.demo_plants.proofs.NodesOf.{never}
use Rattle.demo_plants.proofs.Simple.{plant_with, IsSimple, simple}

-- ---- No ceiling is ever in force

no_ceiling : (tasks : List DemoTask) (t : ℕ) → inner_ceiling (the_system tasks) t ≡ None
no_ceiling [] t = refl
no_ceiling (task ∷ tasks) zero = refl
no_ceiling (task ∷ tasks) (suc t) = no_ceiling tasks t

no_raise : (tasks : List DemoTask) (kernel : Kernel) (context : Option Context) → raise (the_system tasks) kernel context ≡ kernel
no_raise tasks kernel None = refl
no_raise tasks kernel (Some (contexts.Isr i)) = refl
no_raise tasks kernel (Some (contexts.Task t)) = rw (no_ceiling tasks t) refl

pub as_it_is : (tasks : List DemoTask) (kernel : Kernel) → dispatched (the_system tasks) kernel ≡ kernel
as_it_is tasks kernel = no_raise tasks kernel (runs (the_system tasks) kernel)

-- a state with these tasks
abbrev with_tasks : List TaskAt → AbsState
with_tasks ts = record { mode = 0; tasks = ts; isr = None; disabled = false; suspended = 0 }

-- ---- The start

abbrev started_kernel : ℕ → List (Option Active) → Kernel
started_kernel mode ts = record { mode = mode; tasks = ts; isr = None; disabled = false; suspended = 0 }

none_active : (tasks : List DemoTask) (mode : ℕ) → states_at_start mode (map system_task tasks) ≡ replicate (length tasks) None
none_active [] mode = refl
none_active (task ∷ tasks) mode = ap (λ rest. None ∷ rest) (none_active tasks mode)

nothing_starts : (tasks : List DemoTask) (mode : ℕ) → kernels.initial (the_system tasks) mode ≡ started_kernel mode (replicate (length tasks) None)
nothing_starts tasks mode = as_it_is tasks (autostarted (the_system tasks) mode) ∙ ap (started_kernel mode) (none_active tasks mode)

start_is : (tasks : List DemoTask) (flow : Flow) (bs : Blocks) → initial (plant_with tasks flow bs) 0 ≡ state_of (replicate (length tasks) false)
start_is tasks flow bs =
    let places = map (λ n. start_block (plant_with tasks flow bs) (started_kernel 0 (replicate (length tasks) None)) (context_at (the_system tasks) n))
    (range_with_len 0 (context_count (the_system tasks))) in
    let many : length places ≡ length tasks =
    length-map-range_with_len (λ n. start_block (plant_with tasks flow bs) (started_kernel 0 (replicate (length tasks) None)) (context_at (the_system tasks) n)) 0 (context_count (the_system tasks))
    ∙ omega (arith, length-map tasks system_task) in
    rw (nothing_starts tasks 0) (ap with_tasks (no_tasks (length tasks) 0 places many))

-- ---- A source is taken

slice_there : (tasks : List DemoTask) (k : ℕ) → k < length tasks → slice_get tasks k ≡ None → ⊥
slice_there [] k low none = omega arith
slice_there (task ∷ tasks) zero low none = never (sym none)
slice_there (task ∷ tasks) (suc k) low none = slice_there tasks k (omega arith) none

alarm_of : (tasks : List DemoTask) (source : ℕ) → AreDrawn tasks → source < length tasks → kernels.task_of (the_system tasks) source ≡ Some source
alarm_of tasks source drawn below = by_task (slice_get tasks source) refl
  where
    by_task : (o : Option DemoTask) → slice_get tasks source ≡ o → kernels.task_of (the_system tasks) source ≡ Some source
    by_task None is = absurd (slice_there tasks source below is)
    by_task (Some task) is = rw (mapped_at system_alarm tasks source task is) (ap Some (number_at 0 base tasks source task drawn.follow is ∙ omega arith))

take_is_listed : (tasks : List DemoTask) (flow : Flow) (bs : Blocks) (set : List Bool) (source : ℕ) → AreDrawn tasks → IsSimple tasks flow bs → length set ≡ length tasks
    → source < length tasks → Contains (the_states (length tasks)) (after_take (plant_with tasks flow bs) (state_of set) source)
take_is_listed tasks flow bs set source drawn simple long below = by_case (is_suspended (kernel_of (state_of set)) source) refl
  where
    is_alarm : nat_lt source (length (map system_alarm tasks)) ≡ true
    is_alarm = lt-ltb source (length (map system_alarm tasks)) (omega (arith, below, length-map tasks system_alarm))

    by_case : (b : Bool) → is_suspended (kernel_of (state_of set)) source ≡ b → Contains (the_states (length tasks)) (after_take (plant_with tasks flow bs) (state_of set) source)
    by_case true is =
        let place : 0 + source ≡ source = omega arith in
        let made : composing.tasks_at (slice_set (actives 0 set) source (Some fresh)) (slice_set (blocks 0 set ++ []) source (Some source)) ≡ tasks_at 0 (slice_set set source true) =
        subst (λ n. composing.tasks_at (slice_set (actives 0 set) source (Some fresh)) (slice_set (blocks 0 set ++ []) source (Some n)) ≡ tasks_at 0 (slice_set set source true)) place
        (started_tasks 0 set [] source (omega (arith, below, long))) in
        let after : after_take (plant_with tasks flow bs) (state_of set) source ≡ state_of (slice_set set source true) =
        rw (is_alarm, alarm_of tasks source drawn below, is, as_it_is tasks (activate (kernel_of (state_of set)) source), simple.entry source below) (ap with_tasks made) in
        subst (Contains (the_states (length tasks))) (sym after) (listed (length tasks) (slice_set set source true) (length-set set source true ∙ long))
    by_case false is =
        let after : after_take (plant_with tasks flow bs) (state_of set) source ≡ state_of set =
        rw (is_alarm, alarm_of tasks source drawn below, is, as_it_is tasks (kernel_of (state_of set))) (ap with_tasks (composed_tasks 0 set [])) in
        subst (Contains (the_states (length tasks))) (sym after) (listed (length tasks) set long)

in_range : (P : ℕ → Type 0) (from count : ℕ) → ((k : ℕ) → k < from + count → P k) → AllByRecursion P (range_with_len from count)
in_range P from zero holds = tt
in_range P from (suc count) holds = (holds from (omega arith), in_range P (from + 1) count (λ k below. holds k (omega arith)))

takes_are_listed : (tasks : List DemoTask) (flow : Flow) (bs : Blocks) (set : List Bool) → AreDrawn tasks → IsSimple tasks flow bs → length set ≡ length tasks
    → All (λ (move : Move). Contains (the_states (length tasks)) move.to) (takes (plant_with tasks flow bs) (state_of set))
takes_are_listed tasks flow bs set drawn simple long =
    let plant = plant_with tasks flow bs in
    let state = state_of set in
    let count : source_count (the_system tasks) ≡ length tasks = omega (arith, length-map tasks system_alarm) in
    All-map (λ (move : Move). Contains (the_states (length tasks)) move.to) (take_move plant state) (live_sources plant state)
    (All-filter _ (λ source. Contains (the_states (length tasks)) (after_take plant state source)) (range_with_len 0 (source_count (the_system tasks)))
    (All-from_recursion (λ source. Contains (the_states (length tasks)) (after_take plant state source)) (range_with_len 0 (source_count (the_system tasks)))
    (in_range (λ source. Contains (the_states (length tasks)) (after_take plant state source)) 0 (source_count (the_system tasks))
    (λ source below. take_is_listed tasks flow bs set source drawn simple long (omega (arith, below, count))))))

-- ---- The running context ends

holds_nothing : (number : ℕ) (set : List Bool) (c : ℕ) → held_in (slice_index_or (actives number set) c None) ≡ []
holds_nothing number [] c = refl
holds_nothing number (true ∷ set) zero = refl
holds_nothing number (false ∷ set) zero = refl
holds_nothing number (true ∷ set) (suc c) = holds_nothing (suc number) set c
holds_nothing number (false ∷ set) (suc c) = holds_nothing (suc number) set c

ends_so : (tasks : List DemoTask) (set : List Bool) (c : ℕ)
    → served (the_system tasks) (kernel_of (state_of set)) (contexts.Task c) TerminateTask 0 ≡ ends (contexts.Task c) (kernel_of (state_of set))
ends_so tasks set c = rw (holds_nothing 0 set c) refl

abbrev ended : List Bool → ℕ → Served
ended set c = ends (contexts.Task c) (kernel_of (state_of set))

one_service : (tasks : List DemoTask) (flow : Flow) (bs : Blocks) (set : List Bool) (c node : ℕ) (done : Served) → ended set c ≡ done
    → service_move (plant_with tasks flow bs) (state_of set) (contexts.Task c) (record { node = node; done = done })
    ≡ Ok (record { label = labels.Service node; to = state_of (slice_set set c false) })
one_service tasks flow bs set c node done is =
    subst (λ d. service_move (plant_with tasks flow bs) (state_of set) (contexts.Task c) (record { node = node; done = d })
    ≡ Ok (record { label = labels.Service node; to = state_of (slice_set set c false) })) is
    (rw (as_it_is tasks (suspend (kernel_of (state_of set)) (contexts.Task c)))
    (ap (λ ts. Ok (record { label = labels.Service node; to = with_tasks ts })) (ended_tasks 0 set c)))

-- services that all end the caller
record AllMove (count : ℕ) (made : Result (List Move) Misuse) : Type 0 where
  moves : List Move
  is : made ≡ Ok moves
  listed : AllByRecursion (λ (move : Move). Contains (the_states count) move.to) moves

all_move : (tasks : List DemoTask) (flow : Flow) (bs : Blocks) (set : List Bool) (c place : ℕ) (xs : List Serving) → length set ≡ length tasks
    → AllByRecursion (λ (s : Serving). ended set c ≡ s.done) xs
    → AllMove (length tasks) (each_from (λ _. service_move (plant_with tasks flow bs) (state_of set) (contexts.Task c)) place xs)
all_move tasks flow bs set c place [] long each = record { moves = []; is = refl; listed = tt }
all_move tasks flow bs set c place (s ∷ xs) long each =
    let rest = all_move tasks flow bs set c (suc place) xs long each.1 in
    record {
      moves = record { label = labels.Service s.node; to = state_of (slice_set set c false) } ∷ rest.moves;
      is = rw (one_service tasks flow bs set c s.node s.done each.0, rest.is) refl;
      listed = (listed (length tasks) (slice_set set c false) (length-set set c false ∙ long), rest.listed);
    }

one_chosen : {B : Type 0} (P : B → Type 0) (o : Option B) (rest : List B) → ((y : B) → o ≡ Some y → P y) → AllByRecursion P rest → AllByRecursion P (cons_option o rest)
one_chosen P None rest holds each = each
one_chosen P (Some y) rest holds each = (holds y refl, each)

each_chosen : {A B : Type 0} (P : B → Type 0) (h : A → Option B) → ((x : A) (y : B) → h x ≡ Some y → P y) → (xs : List A) → AllByRecursion P (filter_map h xs)
each_chosen P h holds [] = tt
each_chosen P h holds (x ∷ xs) = one_chosen P (h x) (filter_map h xs) (holds x) (each_chosen P h holds xs)

-- a service at a node of the plant ends the caller
asked_ends : (tasks : List DemoTask) (flow : Flow) (bs : Blocks) (set : List Bool) (c node : ℕ) (s : Serving) → IsSimple tasks flow bs
    → serving_at (plant_with tasks flow bs) (state_of set) (contexts.Task c) node ≡ Some s → ended set c ≡ s.done
asked_ends tasks flow bs set c node s simple found = by_leaving (slice_get flow.leaving node) refl
  where
    done_is : (at : ServiceAt) → at ≡ record { number = 2; argument = 0 }
        → option_map (λ service. record { node = node; done = served (the_system tasks) (kernel_of (state_of set)) (contexts.Task c) service at.argument }) (service_of at.number) ≡ Some s
        → ended set c ≡ s.done
    done_is at is asked =
        let made : Some (record { node = node; done = served (the_system tasks) (kernel_of (state_of set)) (contexts.Task c) TerminateTask 0 }) ≡ Some s =
        subst (λ (a : ServiceAt). option_map (λ service. record { node = node; done = served (the_system tasks) (kernel_of (state_of set)) (contexts.Task c) service a.argument }) (service_of a.number) ≡ Some s) is asked in
        sym (ends_so tasks set c) ∙ ap (λ (serving : Serving). serving.done) (same_Some _ s made)

    by_service : (leaving : Leaving) (o : Option ServiceAt) → slice_get flow.leaving node ≡ Some leaving → leaving.service ≡ o → ended set c ≡ s.done
    by_service leaving None is none = absurd (never (rw (is, none) at found))
    by_service leaving (Some at) is asked = done_is at (simple.ends node leaving at is asked) (rw (is, asked) at found)

    by_leaving : (o : Option Leaving) → slice_get flow.leaving node ≡ o → ended set c ≡ s.done
    by_leaving None is = absurd (never (rw is at found))
    by_leaving (Some leaving) is = by_service leaving leaving.service is refl

no_isr : {C : Type 0} (f : C → ℕ) (x : Option C) (i : ℕ) → option_map (λ c. contexts.Task (f c)) x ≡ Some (contexts.Isr i) → ⊥
no_isr f None i is = never is
no_isr f (Some c) i is = absurd (let same : contexts.Task (f c) ≡ contexts.Isr i = same_Some _ _ is in cc)

services_move : (tasks : List DemoTask) (flow : Flow) (bs : Blocks) (set : List Bool) → IsSimple tasks flow bs → length set ≡ length tasks
    → AllMove (length tasks) (services (plant_with tasks flow bs) (state_of set))
services_move tasks flow bs set simple long = by_running (runs (the_system tasks) (kernel_of (state_of set))) refl
  where
    by_running : (o : Option Context) → runs (the_system tasks) (kernel_of (state_of set)) ≡ o → AllMove (length tasks) (services (plant_with tasks flow bs) (state_of set))
    by_running None is = record { moves = []; is = rw is refl; listed = tt }
    by_running (Some (contexts.Isr i)) is = absurd (no_isr _ _ i is)
    by_running (Some (contexts.Task c)) is =
        let plant = plant_with tasks flow bs in
        let all = all_move tasks flow bs set c 0 (servings plant (state_of set) (contexts.Task c)) long
        (each_chosen (λ (s : Serving). ended set c ≡ s.done) (serving_at plant (state_of set) (contexts.Task c))
        (λ node s found. asked_ends tasks flow bs set c node s simple found) (exits_in plant (state_of set) (contexts.Task c))) in
        record { moves = all.moves; is = rw is all.is; listed = all.listed }

-- ---- All moves

moves_stay : (tasks : List DemoTask) (flow : Flow) (bs : Blocks) (set : List Bool) → AreDrawn tasks → IsSimple tasks flow bs → length set ≡ length tasks
    → MovesStay (plant_with tasks flow bs) (the_states (length tasks)) (state_of set)
moves_stay tasks flow bs set drawn simple long =
    let made = services_move tasks flow bs set simple long in
    let Listed = λ (move : Move). Contains (the_states (length tasks)) move.to in
    rw made.is
    (All-append Listed (takes (plant_with tasks flow bs) (state_of set)) made.moves (takes_are_listed tasks flow bs set drawn simple long)
    (All-from_recursion Listed made.moves made.listed))

covered_with : (tasks : List DemoTask) (flow : Flow) (bs : Blocks) → AreDrawn tasks → IsPlant (plant_with tasks flow bs) → IsCovered tasks (plant_with tasks flow bs)
covered_with tasks flow bs drawn belong =
    let facts = simple tasks flow bs drawn belong in
    let first = subst (Contains (the_states (length tasks))) (sym (start_is tasks flow bs))
    (listed (length tasks) (replicate (length tasks) false) (length-replicate (length tasks) false)) in
    record {
      rules = facts.rules;
      closed = record {
        starts = λ mode exists. subst (λ m. Contains (the_states (length tasks)) (initial (plant_with tasks flow bs) m)) (omega (arith, exists)) first;
        stays = λ state has.
            let from = has_set (length tasks) state has in
            subst (MovesStay (plant_with tasks flow bs) (the_states (length tasks))) (sym from.is) (moves_stay tasks flow bs from.set drawn facts from.long);
      };
    }

pub same_plant : (plant : PlantData) (tasks : List DemoTask) → plant.image ≡ the_image tasks → plant.system ≡ the_system tasks → plant.timing ≡ the_timing tasks
    → plant ≡ plant_with tasks plant.flow plant.blocks
same_plant plant tasks image system timing = rw (← image, ← system, ← timing) refl

pub are_covered : (tasks : List DemoTask) → AreDrawn tasks → AreCovered tasks
are_covered tasks drawn plant is =
    let same = same_plant plant tasks is.image_is is.system_is is.timing_is in
    subst (IsCovered tasks) (sym same) (covered_with tasks plant.flow plant.blocks drawn (subst IsPlant same is.belong))
