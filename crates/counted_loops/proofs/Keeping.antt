-- What a run keeps by the code of its loops.
use Rattle.std.proofs.Common.{◌≡◌, ℕ, suc, ◌+◌, ◌^◌, ◌<◌, ◌≤◌, Bool, true, false, cond, List, [], ◌∷◌, length, All, Option, Some, None, refl, sym, ◌∙◌, ap, subst, arith}
use Rattle.std.specs.Prelude.{◌&&◌, IfSome, is_none}
use Rattle.std.specs.List.{AllByRecursion, AllZip}
use Rattle.std.proofs.lemmas.List.Elements.{All-from_recursion, recursion_from_All}
use Rattle.rv32_machine.specs.declared.turns.Turn.{Turn}
use Rattle.rv32_machine.specs.declared.turns.Turn.TheVariants.{Onward, Branching, Jumping, Calling, Returning, Serving, Indirect, Breaking}
use Rattle.rv32_machine.specs.Code.{insn_at}
use Rattle.rv32_machine.specs.Execution.{following}
use Rattle.rv32_machine.specs.Places.{turn_at}
use Rattle.elf_image.specs.Image.{ImageData}
use Rattle.timing_file.specs.declared.timing.Loop.{Loop}
use Rattle.timing_file.specs.declared.timing.Timing.{Timing}
use Rattle.timing_file.specs.Costs.{cost_of_class, extra_at, insn_cost}
use Rattle.timing_file.specs.Lawful.{IsLoop}
use Rattle.oil_model.specs.declared.system.System.{System}
use Rattle.rv32_decode.specs.declared.instruction.Class.{Class}
use Rattle.rv32_decode.specs.declared.instruction.Class.TheVariants as classes
use Rattle.rv32_decode.specs.declared.instruction.Insn.{Insn}
use Rattle.rv32_decode.specs.Instructions.{class_of}
use Rattle.osek_kernel.specs.declared.source.Source.{Source}
use Rattle.osek_kernel.specs.declared.source.Source.TheVariants.{Alarm, Isr}
use Rattle.osek_kernel.specs.Sources.{source_at}
use Rattle.osek_kernel.specs.declared.context.Context.{Context}
use Rattle.osek_machine.specs.Declarations.{ArrivesInTime, KeepsArrivals, KeepsCosts, KeepsLoops, PairsReturns, CostsAtMost, IsDeclared, arrivals_of, distance_of, gap, take_cost, takes_branch}
use Rattle.osek_machine.specs.Events.{Execution, Event, Arrive, Take, Execute, Serve, Idle, started_by}
use Rattle.osek_machine.specs.Loops.{begun, innermost, is_this, laps_of, laps_with, moved_on, returned, same_context, turned}
use Rattle.osek_machine.specs.Runs.{IsRun}
use Rattle.osek_machine.specs.State.{MachineState}
use Rattle.flow_graph.specs.Graph.{entries_of}
use Rattle.graph_runs.specs.Walking.{MisusesNothing}
use Rattle.wcet_atomic_blocks.specs.Plants.{PlantData, IsPlant}
use Rattle.wcet_atomic_blocks.proofs.GraphFacts.{zip_length}
use Rattle.shadow_runs.proofs.Covering.{nothing_is_misused}
use Rattle.counted_loops.specs.Bounds.{found_plant, FoundTimingsBound}
use Rattle.counted_loops.specs.Counted.{IsCounted, IsFound, AreFound}
use Rattle.counted_loops.specs.Found.{with_bound, with_bounds, not_found, found_timing, AreBounds, IsDeclaredBut}
use Rattle.counted_loops.specs.Laws.{CodeKeepsFound}
use Rattle.counted_loops.proofs.Bounding.{bound_small}
use Rattle.counted_loops.proofs.FoundGraphs.{graphs_stay}
use Rattle.counted_loops.proofs.FoundTimings.{stay_lawful}
use Rattle.counted_loops.proofs.Running.{loop_goes_round}
use Rattle.counted_loops.proofs.Sureness.{sure_of}

-- ---- Laps don't hang on bounds

abbrev bounded : Loop → ℕ → Loop
bounded l bound = record l { bound = bound }

moved_same : (l : Loop) (bound a b : ℕ) (laps : List ℕ) → moved_on (bounded l bound) a b laps ≡ moved_on l a b laps
moved_same l bound a b [] = refl
moved_same l bound a b (laps ∷ callers) = refl

returned_same : (l : Loop) (bound : ℕ) (site : Option ℕ) (laps : List ℕ) → returned (bounded l bound) site laps ≡ returned l site laps
returned_same l bound None [] = refl
returned_same l bound None (laps ∷ callers) = refl
returned_same l bound (Some call) [] = refl
returned_same l bound (Some call) (laps ∷ callers) = moved_same l bound call (following call) callers

turned_same : (l : Loop) (bound : ℕ) (turn : Option Turn) (execution : Execution) (laps : List ℕ) → turned (bounded l bound) turn execution laps ≡ turned l turn execution laps
turned_same l bound None execution laps = moved_same l bound _ _ laps
turned_same l bound (Some (Calling target)) execution laps = refl
turned_same l bound (Some Returning) execution laps = returned_same l bound (innermost execution.before.calls) laps
turned_same l bound (Some Onward) execution laps = moved_same l bound _ _ laps
turned_same l bound (Some (Branching target)) execution laps = moved_same l bound _ _ laps
turned_same l bound (Some (Jumping target)) execution laps = moved_same l bound _ _ laps
turned_same l bound (Some Serving) execution laps = moved_same l bound _ _ laps
turned_same l bound (Some Indirect) execution laps = moved_same l bound _ _ laps
turned_same l bound (Some Breaking) execution laps = moved_same l bound _ _ laps

with_same : (image : ImageData) (l : Loop) (bound : ℕ) (c : Context) (event : Event) (laps : List ℕ)
    → laps_with image (bounded l bound) c event laps ≡ laps_with image l c event laps
with_same image l bound c (Arrive arrival) laps = refl
with_same image l bound c (Take taking) laps = refl
with_same image l bound c (Execute execution) laps =
    ap (λ (ls : List ℕ). cond (same_context c execution.context) ls laps)
    (turned_same l bound (turn_at (insn_at image) execution.before.place) execution laps)
with_same image l bound c (Serve call) laps =
    ap (λ (ls : List ℕ). cond (same_context c call.caller && is_none call.reply.ended) ls laps)
    (moved_same l bound call.before.place (following call.before.place) laps)
with_same image l bound c (Idle cycles) laps = refl

laps_same : (image : ImageData) (l : Loop) (bound : ℕ) (c : Context) (events : List Event) → laps_of image (bounded l bound) c events ≡ laps_of image l c events
laps_same image l bound c [] = refl
laps_same image l bound c (event ∷ earlier) =
    ap (λ (ls : List ℕ). cond (is_this c (started_by event)) (begun []) ls)
    (with_same image l bound c event (laps_of image (bounded l bound) c earlier) ∙ ap (laps_with image l c event) (laps_same image l bound c earlier))

-- ---- Bounds are kept

abbrev IsWithin : ImageData → Context → List Event → Loop → Type 0
IsWithin image c events l = AllByRecursion (λ laps. laps ≤ l.bound) (laps_of image l c events)

-- what is known of each counted loop
abbrev CodeKeeps : PlantData → Context → List Event → Type 0
CodeKeeps plant c events = (l : Loop) (bound : ℕ) → IsLoop l → IsCounted (insn_at plant.image) (entries_of plant.image plant.system) plant.flow l bound
    → AllByRecursion (λ laps. laps ≤ bound) (laps_of plant.image l c events)

within_found : (plant : PlantData) (c : Context) (events : List Event) → CodeKeeps plant c events → (loops : List Loop) (found : List (Option ℕ))
    → AllByRecursion IsLoop loops → AreFound plant.image plant.system plant.flow loops found
    → AllByRecursion (IsWithin plant.image c events) (not_found loops found) → AllByRecursion (IsWithin plant.image c events) (with_bounds loops found)
within_found plant c events keeps [] [] lawful are rest = tt
within_found plant c events keeps [] (bound ∷ found) lawful are rest = absurd are
within_found plant c events keeps (l ∷ loops) [] lawful are rest = absurd are
within_found plant c events keeps (l ∷ loops) (None ∷ found) lawful are rest =
    (rest.0, within_found plant c events keeps loops found lawful.1 are.1 rest.1)
within_found plant c events keeps (l ∷ loops) (Some bound ∷ found) lawful are rest = (
  subst (AllByRecursion (λ laps. laps ≤ bound)) (sym (laps_same plant.image l bound c events)) (keeps l bound lawful.0 are.0),
  within_found plant c events keeps loops found lawful.1 are.1 rest,
)

keeps_loops : (plant : PlantData) (found : List (Option ℕ)) (mode : ℕ) (events : List Event) (state : MachineState) → IsPlant plant
    → AreFound plant.image plant.system plant.flow plant.timing.loops found → IsRun plant.image plant.system mode events state
    → PairsReturns plant.image events → MisusesNothing events → KeepsLoops plant.image (record plant.timing { loops = not_found plant.timing.loops found }) events
    → KeepsLoops plant.image (found_timing plant.timing found) events
keeps_loops plant found mode [] state belongs are run pairs clean rest = tt
keeps_loops plant found mode (event ∷ earlier) state belongs are run pairs clean rest = (
  λ c. within_found plant c (event ∷ earlier)
      (λ l bound lawful is. loop_goes_round plant l bound mode (event ∷ earlier) state c belongs lawful is run pairs clean)
      plant.timing.loops found (recursion_from_All IsLoop plant.timing.loops belongs.timing.loops.each) are (rest.0 c),
  keeps_loops plant found mode earlier run.0 belongs are run.1 pairs.1 clean.1 rest.1,
)

-- ---- Arrivals and costs don't hang on loops

abbrev looped : Timing → List Loop → Timing
looped timing loops = record timing { loops = loops }

distance_same : (system : System) (timing : Timing) (loops : List Loop) (source : Source) → distance_of system (looped timing loops) source ≡ distance_of system timing source
distance_same system timing loops (Alarm a) = refl
distance_same system timing loops (Isr i) = refl

arrives_same : (system : System) (timing : Timing) (loops : List Loop) (event : Event) (earlier : List Event) → ArrivesInTime system timing event earlier
    → ArrivesInTime system (looped timing loops) event earlier
arrives_same system timing loops (Arrive a) earlier in_time = record {
  apart = subst (λ (d : ℕ). AllByRecursion (λ other. d ≤ gap a.moment other) (arrivals_of a.source earlier))
      (sym (distance_same system timing loops (source_at system a.source))) in_time.apart;
  once = in_time.once;
}
arrives_same system timing loops (Take taking) earlier in_time = in_time
arrives_same system timing loops (Execute execution) earlier in_time = in_time
arrives_same system timing loops (Serve call) earlier in_time = in_time
arrives_same system timing loops (Idle cycles) earlier in_time = in_time

arrivals_same : (system : System) (timing : Timing) (loops : List Loop) (events : List Event) → KeepsArrivals system timing events
    → KeepsArrivals system (looped timing loops) events
arrivals_same system timing loops [] kept = tt
arrivals_same system timing loops (event ∷ earlier) kept =
    (arrives_same system timing loops event earlier kept.0, arrivals_same system timing loops earlier kept.1)

class_same : (timing : Timing) (loops : List Loop) (class : Class) (taken : Bool) → cost_of_class (looped timing loops) class taken ≡ cost_of_class timing class taken
class_same timing loops classes.Alu taken = refl
class_same timing loops classes.Mul taken = refl
class_same timing loops classes.Div taken = refl
class_same timing loops classes.Load taken = refl
class_same timing loops classes.Store taken = refl
class_same timing loops classes.Branch true = refl
class_same timing loops classes.Branch false = refl
class_same timing loops classes.Jump taken = refl
class_same timing loops classes.Fence taken = refl
class_same timing loops classes.System taken = refl

take_same : (timing : Timing) (loops : List Loop) (source : Source) → take_cost (looped timing loops) source ≡ take_cost timing source
take_same timing loops (Alarm a) = refl
take_same timing loops (Isr i) = refl

insn_same : (timing : Timing) (loops : List Loop) (cycles place : ℕ) (registers : List ℕ) (found : Option Insn)
    → IfSome found (λ insn. cycles ≤ insn_cost timing (class_of insn) (takes_branch insn registers) place)
    → IfSome found (λ insn. cycles ≤ insn_cost (looped timing loops) (class_of insn) (takes_branch insn registers) place)
insn_same timing loops cycles place registers None most = tt
insn_same timing loops cycles place registers (Some insn) most =
    subst (λ cost. cycles ≤ cost + extra_at timing.extra place) (sym (class_same timing loops (class_of insn) (takes_branch insn registers))) most

cost_same : (image : ImageData) (system : System) (timing : Timing) (loops : List Loop) (event : Event) → CostsAtMost image system timing event
    → CostsAtMost image system (looped timing loops) event
cost_same image system timing loops (Arrive a) most = tt
cost_same image system timing loops (Take t) most = subst (λ cost. t.cycles ≤ cost) (sym (take_same timing loops (source_at system t.source))) most
cost_same image system timing loops (Execute e) most = insn_same timing loops e.cycles e.before.place e.before.registers (insn_at image e.before.place) most
cost_same image system timing loops (Serve s) most = most
cost_same image system timing loops (Idle cycles) most = tt

costs_same : (image : ImageData) (system : System) (timing : Timing) (loops : List Loop) (events : List Event) → KeepsCosts image system timing events
    → KeepsCosts image system (looped timing loops) events
costs_same image system timing loops [] kept = tt
costs_same image system timing loops (event ∷ earlier) kept =
    (cost_same image system timing loops event kept.0, costs_same image system timing loops earlier kept.1)

pub code_keeps_found : CodeKeepsFound
code_keeps_found plant found mode events state belongs are run clean kept = record {
  arrivals = arrivals_same plant.system plant.timing (with_bounds plant.timing.loops found) events kept.arrivals;
  returns = kept.returns;
  code = kept.code;
  loops = keeps_loops plant found mode events state belongs are run kept.returns clean kept.loops;
  costs = costs_same plant.image plant.system plant.timing (with_bounds plant.timing.loops found) events kept.costs;
}

-- ---- Plants with found bounds

few_found : (plant : PlantData) → IsPlant plant → (loops : List Loop) (found : List (Option ℕ)) → AllByRecursion IsLoop loops
    → AreFound plant.image plant.system plant.flow loops found → AllByRecursion (λ bound. IfSome bound (λ n. n ≤ 2 ^ 20)) found
few_found plant belongs [] [] lawful are = tt
few_found plant belongs [] (bound ∷ found) lawful are = absurd are
few_found plant belongs (l ∷ loops) [] lawful are = absurd are
few_found plant belongs (l ∷ loops) (None ∷ found) lawful are = (tt, few_found plant belongs loops found lawful.1 are.1)
few_found plant belongs (l ∷ loops) (Some bound ∷ found) lawful are =
    let sure = sure_of plant l bound belongs lawful.0 are.0 in
    let few : bound ≤ 4095 = bound_small sure.is.op sure.is.start sure.is.step sure.is.value bound sure.is.counts.moves sure.start sure.value sure.is.rounds in
    (omega arith, few_found plant belongs loops found lawful.1 are.1)

pub bounds_small : (plant : PlantData) (found : List (Option ℕ)) → IsPlant plant → AreFound plant.image plant.system plant.flow plant.timing.loops found → AreBounds found
bounds_small plant found belongs are = All-from_recursion _ found
    (few_found plant belongs plant.timing.loops found (recursion_from_All IsLoop plant.timing.loops belongs.timing.loops.each) are)

pub as_many : (plant : PlantData) (found : List (Option ℕ)) → AreFound plant.image plant.system plant.flow plant.timing.loops found
    → length found ≡ length plant.timing.loops
as_many plant found are = sym (zip_length _ plant.timing.loops found are)

pub plant_stays : (plant : PlantData) (found : List (Option ℕ)) → IsPlant plant → AreFound plant.image plant.system plant.flow plant.timing.loops found
    → IsPlant (found_plant plant found)
plant_stays plant found belongs are = record {
  image = belongs.image;
  system = belongs.system;
  timing = stay_lawful plant.timing found belongs.timing (as_many plant found are) (bounds_small plant found belongs are);
  graph = graphs_stay plant.image plant.system plant.timing plant.flow found (as_many plant found are) belongs.graph;
  blocks = belongs.blocks;
}

pub found_timings_bound : FoundTimingsBound
found_timings_bound plant found states task bound belongs are closed bounds = λ mode events state activation run kept among is.
    let clean : MisusesNothing events = nothing_is_misused (found_plant plant found) states mode events state (record {
      belongs = plant_stays plant found belongs are;
      closed = closed;
      run = run;
      pairs = kept.returns;
    }) in
    bounds mode events state activation run (code_keeps_found plant found mode events state belongs are run clean kept) among is
