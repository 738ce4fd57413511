-- The verdict on a trace: its first event that can't come there, that comes too close to an earlier arrival, or at which
-- an activation of the task has lasted longer than the bound. The events are followed through the moves of scheduler
-- states, from the state in which the trace's mode starts, in which nothing is pending. What steps cost isn't judged.
use Rattle.std.specs.Prelude.{ℕ, suc, ◌-◌, ◌==◌, max, nat_eq, nat_lt, not, ◌&&◌, ◌||◌, Bool, true, false, List, [], ◌∷◌, filter_map, find, position, replicate, slice_index_or, slice_set, is_none, Option, Some, None, option_and_then, unwrap_or, if◌then◌else◌}
use Rattle.std.specs.Cmp.Lexicographic.{pointwise}
use Rattle.std.specs.List.{list_any}
use Rattle.std.specs.Option.{option_map_or}
use Rattle.osek_kernel.specs.declared.context.Context.TheVariants as contexts
use Rattle.osek_kernel.specs.declared.source.Source.{Source}
use Rattle.osek_kernel.specs.Sources.{source_at, source_count, is_live, is_one_shot}
use Rattle.osek_machine.specs.Declarations.{distance_of, gap}
use Rattle.osek_machine.specs.Events.{Arrival}
use Rattle.flow_graph.specs.declared.node.Node.{Node}
use Rattle.wcet_atomic_blocks.specs.Plants.{PlantData}
use Rattle.abstract_sched.specs.declared.states.AbsState.{AbsState}
use Rattle.scheduler_moves.specs.declared.moves.MoveLabel.{MoveLabel}
use Rattle.scheduler_moves.specs.Moves.{initial}
use Rattle.row_build.specs.Columns.{Going, goings_from, takes_source, calls_at, is_active_in, activates}
use Rattle.trace_check.specs.declared.trace.Event.{Event}
use Rattle.trace_check.specs.declared.trace.Event.TheVariants.{Arrive, Take, Service}
use Rattle.trace_check.specs.declared.trace.Trace.{Trace}
use Rattle.trace_check.specs.declared.verdict.TraceVerdict.{TraceVerdict}
use Rattle.trace_check.specs.declared.verdict.TraceVerdict.TheVariants.{Fits, NotAWalk, TooClose, OverBound}

-- ---- How far the events were followed

pub record Follower : Type 0 where
  pub state : AbsState
  -- for each source by number, whether it has arrived and wasn't taken yet
  pub pending : List Bool
  -- in cycles: the start of the last timed event, and the greatest moment so far
  pub last_start : ℕ
  pub latest : ℕ
  -- the newest first
  pub arrivals : List Arrival
  -- the moment at which the task's activation began; none where the task isn't active
  pub since : Option ℕ

abbrev pub since_start : AbsState → ℕ → Option ℕ
since_start state task = if is_active_in state (contexts.Task task) then Some 0 else None

-- before the first event
abbrev pub at_start : PlantData → ℕ → ℕ → Follower
at_start plant task mode = record {
  state = initial plant mode;
  pending = replicate (source_count plant.system) false;
  last_start = 0;
  latest = 0;
  arrivals = [];
  since = since_start (initial plant mode) task;
}

-- ---- Timed events

pub record Times : Type 0 where
  pub start : ℕ
  pub end : ℕ

-- an arrival is none
abbrev pub times_of : Event → Option Times
times_of (Arrive at source) = None
times_of (Take start end source) = Some (record { start = start; end = end })
times_of (Service start end context sites address) = Some (record { start = start; end = end })

-- the node of that context with these open calls and that address, by its number
abbrev pub is_node : ℕ → List ℕ → ℕ → Node → Bool
is_node context sites address node = node.context == context && pointwise nat_eq node.sites sites && (node.address == address)

abbrev pub node_of : PlantData → ℕ → List ℕ → ℕ → Option ℕ
node_of plant context sites address = position (is_node context sites address) plant.flow.nodes

-- the state's move with such a label
abbrev pub move_with : PlantData → AbsState → (MoveLabel → Bool) → Option Going
move_with plant state is_label = find (λ going. is_label going.move.label) (goings_from plant state)

-- the move that the event is; none where it is no move of the state
abbrev pub move_of : PlantData → AbsState → Event → Option Going
move_of plant state (Arrive at source) = None
move_of plant state (Take start end source) = move_with plant state (takes_source source)
move_of plant state (Service start end context sites address) =
    option_and_then (λ node. move_with plant state (calls_at node)) (node_of plant context sites address)

-- ---- After an event that has no fault

-- where the task's activation began, once the move is made from the start on
abbrev pub since_after : PlantData → ℕ → ℕ → Going → Option ℕ → Option ℕ
since_after plant task start going since =
    if activates plant (contexts.Task task) going then Some start
    else (if is_active_in going.move.to (contexts.Task task) then since
    else None)

abbrev pub moved : PlantData → ℕ → Times → Follower → Going → Follower
moved plant task times f going = record f {
  state = going.move.to;
  last_start = times.start;
  latest = max f.latest times.end;
  since = since_after plant task times.start going f.since;
}

abbrev pub moved_by : PlantData → ℕ → Times → Event → Follower → Follower
moved_by plant task times event f = option_map_or (moved plant task times f) (move_of plant f.state event) f

-- an arrival makes its source pending, and a take clears it
abbrev pub followed : PlantData → ℕ → Follower → Event → Follower
followed plant task f (Arrive at source) = record f {
  pending = slice_set f.pending source true;
  latest = max f.latest at;
  arrivals = record { source = source; moment = at } ∷ f.arrivals;
}
followed plant task f (Take start end source) =
    moved_by plant task (record { start = start; end = end }) (Take start end source) (record f { pending = slice_set f.pending source false })
followed plant task f (Service start end context sites address) =
    moved_by plant task (record { start = start; end = end }) (Service start end context sites address) f

-- ---- An event that can't come there

abbrev pub ends_early : Times → Bool
ends_early times = nat_lt times.end times.start

-- before an earlier timed event ended, or before an earlier arrival
abbrev pub starts_early : Follower → Times → Bool
starts_early f times = nat_lt times.start f.latest

abbrev pub isnt_live : PlantData → Follower → ℕ → Bool
isnt_live plant f source = not (is_live plant.system f.state.mode (source_at plant.system source))

-- before the last timed event started
abbrev pub arrives_early : Follower → ℕ → Bool
arrives_early f at = nat_lt at f.last_start

abbrev pub isnt_pending : Follower → ℕ → Bool
isnt_pending f source = not (slice_index_or f.pending source false)

abbrev pub is_no_move : PlantData → Follower → Event → Bool
is_no_move plant f event = is_none (move_of plant f.state event)

abbrev pub has_wrong_times : Follower → Times → Bool
has_wrong_times f times = ends_early times || starts_early f times

abbrev pub is_no_walk : PlantData → Follower → Event → Bool
is_no_walk plant f (Arrive at source) = isnt_live plant f source || arrives_early f at
is_no_walk plant f (Take start end source) =
    has_wrong_times f (record { start = start; end = end }) || (isnt_pending f source || is_no_move plant f (Take start end source))
is_no_walk plant f (Service start end context sites address) =
    has_wrong_times f (record { start = start; end = end }) || is_no_move plant f (Service start end context sites address)

-- ---- An arrival that comes too close to an earlier one

-- the moments at which the source arrived
abbrev pub moment_of : ℕ → Arrival → Option ℕ
moment_of source arrival = if arrival.source == source then Some arrival.moment else None

abbrev pub moments_of : ℕ → List Arrival → List ℕ
moments_of source arrivals = filter_map (moment_of source) arrivals

-- nearer than the source's distance; a source that is set once arrives once
abbrev pub is_near : PlantData → Source → ℕ → ℕ → Bool
is_near plant source at other = is_one_shot plant.system source || nat_lt (gap at other) (distance_of plant.system plant.timing source)

abbrev pub is_too_close : PlantData → Follower → Event → Bool
is_too_close plant f (Arrive at source) = list_any (is_near plant (source_at plant.system source) at) (moments_of source f.arrivals)
is_too_close plant f event = false

-- ---- An activation that has lasted too long

abbrev pub lasts_over : ℕ → ℕ → ℕ → Bool
lasts_over bound end start = nat_lt bound (end - start)

-- the activation that began before the event
abbrev pub has_lasted_over : ℕ → ℕ → Follower → Bool
has_lasted_over bound end f = option_map_or (lasts_over bound end) f.since false

-- the one that the event begins
abbrev pub begins_over : PlantData → ℕ → ℕ → Times → Option Going → Bool
begins_over plant task bound times going =
    option_map_or (activates plant (contexts.Task task)) going false && lasts_over bound times.end times.start

abbrev pub is_over : PlantData → ℕ → ℕ → Follower → Event → Bool
is_over plant task bound f event = option_map_or
    (λ times. has_lasted_over bound times.end f || begins_over plant task bound times (move_of plant f.state event))
    (times_of event) false

-- ---- The verdict

-- at the event of this place, if it has a fault
abbrev pub fault_at : PlantData → ℕ → ℕ → ℕ → Follower → Event → Option TraceVerdict
fault_at plant task bound place f event =
    if is_no_walk plant f event then Some (NotAWalk place)
    else (if is_too_close plant f event then Some (TooClose place)
    else (if is_over plant task bound f event then Some (OverBound place)
    else None))

-- at the end, which stands for an event after the last
abbrev pub verdict_at_end : ℕ → ℕ → ℕ → Follower → TraceVerdict
verdict_at_end bound end place f =
    if nat_lt end f.latest then NotAWalk place
    else (if has_lasted_over bound end f then OverBound place
    else Fits)

-- of the events from this place on
abbrev pub verdict_from : PlantData → ℕ → ℕ → ℕ → ℕ → Follower → List Event → TraceVerdict
verdict_from plant task bound end place f [] = verdict_at_end bound end place f
verdict_from plant task bound end place f (event ∷ events) =
    unwrap_or (fault_at plant task bound place f event) (verdict_from plant task bound end (suc place) (followed plant task f event) events)

-- The first event with a fault, for the task and the bound in cycles. At one event the faults come in the order above.
abbrev pub verdict_of : PlantData → ℕ → ℕ → Trace → TraceVerdict
verdict_of plant task bound trace = verdict_from plant task bound trace.end 0 (at_start plant task trace.mode) trace.events
