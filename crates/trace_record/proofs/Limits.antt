-- What is recorded of a run exists, and lies within the limits of a recording's text while its moments do.
use Rattle.std.proofs.Common.{◌≡◌, ℕ, zero, suc, ◌+◌, ◌-◌, ◌^◌, ◌<◌, ◌≤◌, nat_lt, nat_le, Bool, true, false, cond, List, [], ◌∷◌, ◌++◌, length, take, Some, None, refl, sym, ◌∙◌, ap, subst, arith}
use Rattle.std.specs.Prelude.{option_map, option_to_list}
use Rattle.std.specs.List.{AllByRecursion}
use Rattle.std.proofs.lemmas.Bool.{leb-false, ltb-true, ltb-false}
use Rattle.std.proofs.lemmas.List.{length-append, length-take-le}
use Rattle.oil_model.specs.declared.system.System.{System}
use Rattle.rv32_machine.specs.declared.turns.Turn.{Turn}
use Rattle.rv32_machine.specs.declared.turns.Turn.TheVariants.{Onward, Branching, Jumping, Calling, Returning, Serving, Indirect, Breaking}
use Rattle.rv32_machine.specs.ContextStep.{Standing, calls_after, turn_from}
use Rattle.rv32_machine.specs.Places.{pair_at, turn_of, turn_at}
use Rattle.rv32_machine.proofs.StepLaws.{image_fits}
use Rattle.osek_kernel.specs.declared.context.Context.{Context}
use Rattle.osek_kernel.specs.declared.context.Context.TheVariants as contexts
use Rattle.osek_kernel.specs.declared.source.Source.TheVariants as sources
use Rattle.osek_kernel.specs.Contexts.{IsContext, context_count, place_of}
use Rattle.osek_kernel.specs.Sources.{is_live, source_at, source_count}
use Rattle.osek_machine.specs.Declarations.{PairsReturns}
use Rattle.osek_machine.specs.Events.{Event, Arrive, Take, Execute, Serve, Idle, cycles_of, duration}
use Rattle.osek_machine.specs.Room.{IsStateOf}
use Rattle.osek_machine.specs.Runs.{IsRun}
use Rattle.osek_machine.specs.State.{MachineState}
use Rattle.osek_machine.specs.Steps.{Step}
use Rattle.osek_machine.proofs.Kept.{pending_within, running_exists}
use Rattle.osek_machine.proofs.Times.{runs_take_their_time}
use Rattle.flow_graph.specs.declared.node.Node.{Node}
use Rattle.flow_graph.specs.Faults.{calls_too_deep, fault_of}
use Rattle.flow_graph.specs.Walks.{IsOnGraph, Walk, WalksStayOnGraph, begins, goes_on, steps, served}
use Rattle.flow_graph.proofs.Sound.{sound}
use Rattle.flow_graph.proofs.WalkLaws.{walks_stay_on_graph}
use Rattle.graph_runs.specs.Walking.{AreWalking, MisusesNothing}
use Rattle.graph_runs.proofs.Walking.{runs_walk}
use Rattle.wcet_atomic_blocks.specs.Plants.{PlantData, IsPlant}
use Rattle.shadow_runs.proofs.Planted.{program_in, have_graph}
use Rattle.trace_check.specs.Trace.{IsAddress, IsInLimits, IsPlace, NamesWhatExists}
use Rattle.trace_record.specs.Fitting.{RecordingsAreLawful}
use Rattle.trace_record.specs.Recording.{recorded_in, recorded_of}
use Rattle.trace_record.proofs.Active.{room_in}

-- ---- Open calls

all_append : {A : Type 0} (P : A → Type 0) (xs ys : List A) → AllByRecursion P xs → AllByRecursion P ys → AllByRecursion P (xs ++ ys)
all_append P [] ys first then = then
all_append P (x ∷ xs) ys first then = (first.0, all_append P xs ys first.1 then)

all_take : {A : Type 0} (P : A → Type 0) (n : ℕ) (xs : List A) → AllByRecursion P xs → AllByRecursion P (take n xs)
all_take P zero xs all = tt
all_take P (suc n) [] all = tt
all_take P (suc n) (x ∷ xs) all = (all.0, all_take P n xs all.1)

-- open calls are few, and addresses
record CallsFit (calls : List ℕ) : Type 0 where
  few : length calls ≤ 16
  each : AllByRecursion IsAddress calls

-- a turn that calls finds fewer
abbrev HasDepth : Turn → List ℕ → Type 0
HasDepth (Calling target) calls = nat_le 16 (length calls) ≡ false
HasDepth turn calls = Unit {0}

calls_fit : (turn : Turn) (place : ℕ) (calls : List ℕ) → HasDepth turn calls → IsAddress place → CallsFit calls → CallsFit (calls_after turn place calls)
calls_fit (Calling target) place calls deep is fit =
    let fewer = leb-false 16 (length calls) deep in
    let count = length-append calls (place ∷ []) in
    record { few = omega arith; each = all_append IsAddress calls (place ∷ []) fit.each (is, tt) }
calls_fit Returning place calls deep is fit =
    let was = fit.few in
    let count = length-take-le (length calls - 1) calls (omega arith) in
    record { few = omega arith; each = all_take IsAddress (length calls - 1) calls fit.each }
calls_fit Onward place calls deep is fit = fit
calls_fit (Branching target) place calls deep is fit = fit
calls_fit (Jumping target) place calls deep is fit = fit
calls_fit Serving place calls deep is fit = fit
calls_fit Indirect place calls deep is fit = fit
calls_fit Breaking place calls deep is fit = fit

depth_of : (node : Node) (turn : Turn) (calls : List ℕ) → calls ≡ node.sites → calls_too_deep node turn ≡ false → HasDepth turn calls
depth_of node (Calling target) calls are deep = ap (λ (xs : List ℕ). nat_le 16 (length xs)) are ∙ deep
depth_of node Onward calls are deep = tt
depth_of node (Branching target) calls are deep = tt
depth_of node (Jumping target) calls are deep = tt
depth_of node Returning calls are deep = tt
depth_of node Serving calls are deep = tt
depth_of node Indirect calls are deep = tt
depth_of node Breaking calls are deep = tt

on_graph : (plant : PlantData) → IsPlant plant → (context : ℕ) (standing : Standing) → Walk (program_in plant) context standing
    → IsOnGraph (program_in plant) context standing
unfolding WalksStayOnGraph
on_graph plant is context standing walk =
    walks_stay_on_graph (program_in plant) (have_graph plant is).faultless (image_fits plant.image) context standing walk

walk_fits : (plant : PlantData) → IsPlant plant → (context : ℕ) (standing : Standing) → Walk (program_in plant) context standing
    → CallsFit standing.calls
walk_fits plant is context _ (begins registers place are below at) = record { few = omega arith; each = tt }
walk_fits plant is context _ (goes_on before _ walk (served _ registers fetched on are)) = walk_fits plant is context before walk
walk_fits plant is context _ (goes_on before after walk (steps device memory memory' _ _ bytes step returns)) =
    let on : IsOnGraph (program_in plant) context before = on_graph plant is context before walk in
    let turn : Turn = turn_from (program_in plant).code step.insn before in
    let there : turn_at (program_in plant).code before.place ≡ Some turn =
    ap (option_map (turn_of (pair_at (program_in plant).code before.place) before.place)) step.fetched in
    let at : turn_at (program_in plant).code on.node.address ≡ Some turn =
    subst (λ (n : ℕ). turn_at (program_in plant).code n ≡ Some turn) on.stands.place_is there in
    let none : fault_of (program_in plant) on.node ≡ None = (have_graph plant is).faultless.none on.node on.reached in
    subst CallsFit (sym step.calls_are)
    (calls_fit turn before.place before.calls
    (depth_of on.node turn before.calls on.stands.calls_are (sound (program_in plant) on.node turn at none).shallow)
    on.stands.fits.place_fits (walk_fits plant is context before walk))

walk_place : (plant : PlantData) → IsPlant plant → (context : ℕ) (standing : Standing) → Walk (program_in plant) context standing
    → IsPlace standing.calls standing.place
walk_place plant is context standing walk =
    let fit = walk_fits plant is context standing walk in
    record { few = fit.few; calls = fit.each; place = (on_graph plant is context standing walk).stands.fits.place_fits }

-- ---- Sources and contexts

live_exists : (system : System) (mode source : ℕ) → is_live system mode (source_at system source) ≡ true → source < source_count system
live_exists system mode source live = by (nat_lt source (length system.alarms)) refl live
  where
    by : (b : Bool) → nat_lt source (length system.alarms) ≡ b
        → is_live system mode (cond b (sources.Alarm source) (sources.Isr (source - length system.alarms))) ≡ true → source < source_count system
    by true is passes = let below = ltb-true source (length system.alarms) is in omega arith
    by false is passes =
        let past = ltb-false source (length system.alarms) is in
        let below = ltb-true (source - length system.alarms) (length system.isrs) passes in omega arith

context_within : (system : System) (context : Context) → IsContext system context → place_of system context < context_count system
context_within system (contexts.Task t) is = omega (arith, is)
context_within system (contexts.Isr i) is = omega (arith, is)

-- ---- What is recorded of a step

-- a run in which contexts walk
record IsWalked (plant : PlantData) (mode : ℕ) (earlier : List Event) (before : MachineState) : Type 0 where
  is : IsPlant plant
  run : IsRun plant.image plant.system mode earlier before
  room : IsStateOf plant.system before
  walking : AreWalking (program_in plant) plant.system before

one_named : (plant : PlantData) (mode : ℕ) (event : Event) (earlier : List Event) (before after : MachineState) → IsWalked plant mode earlier before
    → Step plant.image plant.system event before after
    → AllByRecursion (NamesWhatExists plant.system) (option_to_list (recorded_of plant.system event earlier))
one_named plant mode (Arrive a) earlier before after walked step = (live_exists plant.system before.kernel.mode a.source step.live, tt)
one_named plant mode (Take t) earlier before after walked step = (
  let within = pending_within before.pending t.source step.pending in
      let count : length before.pending ≡ source_count plant.system = walked.room.pending in
      let below : t.source < source_count plant.system = omega arith in below,
  tt,
)
one_named plant mode (Execute e) earlier before after walked step = tt
one_named plant mode (Serve c) earlier before after walked step =
    (context_within plant.system c.caller (running_exists plant.system before c.caller walked.room step.running), tt)
one_named plant mode (Idle cycles) earlier before after walked step = tt

one_limited : (plant : PlantData) (mode : ℕ) (event : Event) (earlier : List Event) (before after : MachineState) → IsWalked plant mode earlier before
    → Step plant.image plant.system event before after → duration (event ∷ earlier) < 2 ^ 63
    → AllByRecursion IsInLimits (option_to_list (recorded_of plant.system event earlier))
one_limited plant mode (Arrive a) earlier before after walked step soon = (
  let past = step.past in let now : before.moment ≡ duration earlier =
      (runs_take_their_time plant.image plant.system mode earlier before walked.run).moment in
      let below : a.moment < 2 ^ 63 = omega arith in below,
  tt,
)
one_limited plant mode (Take t) earlier before after walked step soon = ((omega arith, soon), tt)
one_limited plant mode (Execute e) earlier before after walked step soon = tt
one_limited plant mode (Serve c) earlier before after walked step soon = (
  (
    omega arith,
    soon,
    walk_place plant walked.is (place_of plant.system c.caller) c.before (walked.walking.walks c.caller c.before
        (running_exists plant.system before c.caller walked.room step.running) step.stands),
  ),
  tt,
)
one_limited plant mode (Idle cycles) earlier before after walked step soon = tt

-- ---- Whole runs

walked_before : (plant : PlantData) → IsPlant plant → (mode : ℕ) (earlier : List Event) (before : MachineState)
    → IsRun plant.image plant.system mode earlier before → PairsReturns plant.image earlier → MisusesNothing earlier → IsWalked plant mode earlier before
walked_before plant is mode earlier before run pairs clean = record {
  is = is;
  run = run;
  room = room_in plant is mode earlier before run;
  walking = runs_walk plant.image plant.system plant.timing mode earlier before (have_graph plant is) run pairs clean;
}

all_named : (plant : PlantData) → IsPlant plant → (mode : ℕ) (events : List Event) (state : MachineState)
    → IsRun plant.image plant.system mode events state → PairsReturns plant.image events → MisusesNothing events
    → AllByRecursion (NamesWhatExists plant.system) (recorded_in plant.system events)
all_named plant is mode [] state run pairs clean = tt
all_named plant is mode (event ∷ earlier) state run pairs clean =
    all_append (NamesWhatExists plant.system) (recorded_in plant.system earlier) (option_to_list (recorded_of plant.system event earlier))
    (all_named plant is mode earlier run.0 run.1 pairs.1 clean.1)
    (one_named plant mode event earlier run.0 state (walked_before plant is mode earlier run.0 run.1 pairs.1 clean.1) run.2)

all_limited : (plant : PlantData) → IsPlant plant → (mode : ℕ) (events : List Event) (state : MachineState)
    → IsRun plant.image plant.system mode events state → PairsReturns plant.image events → MisusesNothing events → duration events < 2 ^ 63
    → AllByRecursion IsInLimits (recorded_in plant.system events)
all_limited plant is mode [] state run pairs clean soon = tt
all_limited plant is mode (event ∷ earlier) state run pairs clean soon =
    all_append IsInLimits (recorded_in plant.system earlier) (option_to_list (recorded_of plant.system event earlier))
    (all_limited plant is mode earlier run.0 run.1 pairs.1 clean.1 (let all : duration earlier + cycles_of event < 2 ^ 63 = soon in omega arith))
    (one_limited plant mode event earlier run.0 state (walked_before plant is mode earlier run.0 run.1 pairs.1 clean.1) run.2 soon)

mode_exists : (plant : PlantData) (mode : ℕ) (events : List Event) (state : MachineState) → IsRun plant.image plant.system mode events state
    → mode < length plant.system.modes
mode_exists plant mode [] state run = run.exists
mode_exists plant mode (event ∷ earlier) state run = mode_exists plant mode earlier run.0 run.1

pub recordings_are_lawful : RecordingsAreLawful
recordings_are_lawful plant mode events state is run pairs clean soon few = record {
  names = record { mode = mode_exists plant mode events state run; events = all_named plant is mode events state run pairs clean };
  end = soon;
  few = few;
  limits = all_limited plant is mode events state run pairs clean soon;
}
