-- The recording of a run: its arrivals, the taking of its sources and its calls of services, oldest first. What code does
-- in between isn't recorded. Runs are given by their steps, of which the newest stands first.
use Rattle.std.specs.Prelude.{ℕ, ◌+◌, List, [], ◌∷◌, ◌++◌, Option, Some, None, option_to_list}
use Rattle.oil_model.specs.declared.system.System.{System}
use Rattle.osek_kernel.specs.Contexts.{place_of}
use Rattle.osek_machine.specs.Events.{Event, Arrive, Take, Serve, duration}
use Rattle.trace_check.specs.declared.trace.Trace.{Trace}
use Rattle.trace_check.specs.declared.trace.Event.{Event as TraceEvent}
use Rattle.trace_check.specs.declared.trace.Event.TheVariants as traces

-- What is recorded of a step that was made after the earlier ones, if anything is. A source and a context are told by
-- their numbers, and open calls by their addresses, outermost first.
abbrev pub recorded_of : System → Event → List Event → Option TraceEvent
recorded_of system (Arrive a) earlier = Some (traces.Arrive a.moment a.source)
recorded_of system (Take t) earlier = Some (traces.Take (duration earlier) (duration earlier + t.cycles) t.source)
recorded_of system (Serve c) earlier =
    Some (traces.Service (duration earlier) (duration earlier + c.cycles) (place_of system c.caller) c.before.calls c.before.place)
recorded_of system event earlier = None

-- what is recorded of the steps, oldest first
abbrev pub recorded_in : System → List Event → List TraceEvent
recorded_in system [] = []
recorded_in system (event ∷ earlier) = recorded_in system earlier ++ option_to_list (recorded_of system event earlier)

-- It ends where the last step that takes time ends, and at 0 where there is none.
abbrev pub recording_of : System → ℕ → List Event → Trace
recording_of system mode events = record { mode = mode; end = duration events; events = recorded_in system events }
