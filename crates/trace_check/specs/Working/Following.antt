-- A follower in code, against how far the events were followed.
use Rattle.std.specs.Prelude.{◌≡◌, ℕ, ◌<◌, ◌||◌, List, drop, length, is_none, slice_get, Option, Some, None, option_map, IfSome, if◌then◌else◌}
use Rattle.std.specs.Option.{option_map_or}
use Rattle.osek_kernel.specs.Sources.{source_count}
use Rattle.wcet_atomic_blocks.specs.Plants.{PlantData}
use Rattle.abstract_sched.specs.declared.states.AbsState.{AbsState}
use Rattle.row_build.specs.Columns.{Going}
use Rattle.certificate.specs.declared.cert.Cert.{Cert}
use Rattle.trace_check.specs.declared.follower.Follower as code
use Rattle.trace_check.specs.declared.tables.Step.{Step}
use Rattle.trace_check.specs.declared.tables.Tables.{Tables}
use Rattle.trace_check.specs.declared.trace.Event.{Event}
use Rattle.trace_check.specs.declared.trace.Trace.{Trace}
use Rattle.trace_check.specs.declared.verdict.TraceVerdict.{TraceVerdict}
use Rattle.trace_check.specs.declared.verdict.TraceVerdict.TheVariants.{NotAWalk, OverBound}
use Rattle.trace_check.specs.Verdict.{Follower, Times, move_of, moved, followed, fault_at, has_lasted_over, begins_over, verdict_from, verdict_of}
use Rattle.trace_check.specs.Working.Arrived.{AreKept}
use Rattle.trace_check.specs.Working.Tables.{going_of, AreTables}

pub record Follows (plant : PlantData) (states : List AbsState) (follower : code.Follower) (f : Follower) : Type 0 where
  pub state : slice_get states follower.state ≡ Some f.state
  pub pending : follower.pending.items ≡ f.pending
  pub room : length f.pending ≡ source_count plant.system
  pub last_start : follower.last_start ≡ f.last_start
  pub latest : follower.latest ≡ f.latest
  pub arrivals : AreKept follower.arrivals.sets.items (source_count plant.system) f.arrivals
  pub since : follower.since ≡ f.since

-- the follower follows some events
abbrev pub IsFollower : PlantData → List AbsState → code.Follower → Type 0
IsFollower plant states follower = (f : Follower) × Follows plant states follower f

-- the step is the move that the event is in the state of this number, or none where it is none
pub record IsStep (plant : PlantData) (states : List AbsState) (number : ℕ) (f : Follower) (event : Event) (step : Option Step) : Type 0 where
  pub is : option_map (going_of states number) step ≡ move_of plant f.state event
  pub listed : IfSome step (λ s. s.to < length states)

-- ---- A timed event, once its move is looked up

abbrev pub timed_fault : PlantData → ℕ → ℕ → ℕ → Follower → Times → Option Going → Option TraceVerdict
timed_fault plant task bound place f times going =
    if is_none going then Some (NotAWalk place)
    else (if has_lasted_over bound times.end f || begins_over plant task bound times going then Some (OverBound place)
    else None)

abbrev pub timed_after : PlantData → ℕ → Follower → Times → Option Going → Follower
timed_after plant task f times going = option_map_or (moved plant task times f) going f

abbrev pub MovesOn : PlantData → Cert → ℕ → Follower → Times → Option Going → code.Follower → Option TraceVerdict → Type 0
MovesOn plant cert place f times going after (Some verdict) = timed_fault plant cert.task cert.bound place f times going ≡ Some verdict
MovesOn plant cert place f times going after None =
    (timed_fault plant cert.task cert.bound place f times going ≡ None)
    × Follows plant cert.states after (timed_after plant cert.task f times going)

-- ---- An event is judged, and followed where it has no fault

abbrev pub Goes : PlantData → Cert → ℕ → Follower → Event → code.Follower → Option TraceVerdict → Type 0
Goes plant cert place f event after (Some verdict) = fault_at plant cert.task cert.bound place f event ≡ Some verdict
Goes plant cert place f event after None =
    (fault_at plant cert.task cert.bound place f event ≡ None) × Follows plant cert.states after (followed plant cert.task f event)

-- ---- All of them

-- The events before this place have no fault, and were followed; the verdict is that of the others.
pub record Judging (plant : PlantData) (cert : Cert) (trace : Trace) (tables : Tables) (follower : code.Follower) (place : ℕ) : Type 0 where
  pub f : Follower
  pub follows : Follows plant cert.states follower f
  pub tables_are : AreTables plant cert.states tables
  pub rest : verdict_from plant cert.task cert.bound trace.end place f (drop place trace.events) ≡ verdict_of plant cert.task cert.bound trace
