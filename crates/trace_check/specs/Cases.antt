-- Worked traces of a system in which an alarm's task H preempts task T, whose bound is 133 cycles.
use Rattle.std.specs.Prelude.{◌≡◌, ℕ, List, [], ◌∷◌, codes, Ok, Err, refl}
use Rattle.std.specs.Fmt.{digits}
use Rattle.json.specs.Print.{escape_byte}
use Rattle.serde_json.specs.Data.{Data, null, string, object, member, no_members}
use Rattle.certificate.specs.Writing.{number_data, list_data}
use Rattle.activation_windows.specs.Samples.Preempted.{plant, system}
use Rattle.trace_check.specs.declared.fault.TraceKind.TheVariants.{Shape, Range, Name}
use Rattle.trace_check.specs.declared.trace.Event.{Event}
use Rattle.trace_check.specs.declared.trace.Event.TheVariants.{Arrive, Take, Service}
use Rattle.trace_check.specs.declared.trace.Trace.{Trace}
use Rattle.trace_check.specs.declared.verdict.TraceVerdict.{TraceVerdict}
use Rattle.trace_check.specs.declared.verdict.TraceVerdict.TheVariants.{Fits, NotAWalk, TooClose, OverBound}
use Rattle.trace_check.specs.Form.{trace_parts, parts_of, arrive_parts, take_parts, service_parts}
use Rattle.trace_check.specs.Text.{trace_data, trace_text, trace_in, event_of}
use Rattle.trace_check.specs.Verdict.{verdict_of}

-- the alarm arrives and is taken, H ends at 0x118, and then T at 0x10c
abbrev arrives : Event
arrives = Arrive 2 0

abbrev ends : List Event
ends = Service 34 54 1 [] 0x118 ∷ Service 55 75 0 [] 0x10c ∷ []

abbrev recorded : Trace
recorded = record { mode = 0; end = 75; events = arrives ∷ Take 2 32 0 ∷ ends }

-- ---- Verdicts

abbrev judged : ℕ → List Event → TraceVerdict
judged end events = verdict_of plant 0 133 (record { mode = 0; end = end; events = events })

it_fits : judged 75 recorded.events ≡ Fits
it_fits = refl

the_take_is_missing : judged 75 (arrives ∷ ends) ≡ NotAWalk 1
the_take_is_missing = refl

arrives_again_too_close : judged 75 (arrives ∷ Arrive 900 0 ∷ Take 2 32 0 ∷ ends) ≡ TooClose 1
arrives_again_too_close = refl

t_lasts_too_long : judged 134 [] ≡ OverBound 0
t_lasts_too_long = refl

t_lasts_as_long_as_it_may : judged 133 [] ≡ Fits
t_lasts_as_long_as_it_may = refl

it_ends_before_its_last_event : judged 74 recorded.events ≡ NotAWalk 4
it_ends_before_its_last_event = refl

h_ends_before_the_take_does : judged 75 (arrives ∷ Take 2 35 0 ∷ ends) ≡ NotAWalk 2
h_ends_before_the_take_does = refl

-- ---- Texts

its_line : trace_text system recorded
    ≡ codes "{\"end\":75,\"events\":[[\"arrive\",2,\"Tick\"],[\"take\",2,32,\"Tick\"],[\"service\",34,54,\"H\",[],280],[\"service\",55,75,\"T\",[],268]],\"mode\":\"Main\"}\n"
unfolding trace_data digits escape_byte
its_line = refl

it_is_read_again : trace_in system (trace_data system recorded) ≡ Ok recorded
unfolding trace_data trace_in event_of trace_parts parts_of arrive_parts take_parts service_parts
it_is_read_again = refl

-- with this end, these events and this mode
with_parts : Data → List Data → List ℕ → Data
with_parts end events mode =
    object (member (codes "end") end (member (codes "events") (list_data events) (member (codes "mode") (string mode) no_members)))

no_such_mode : trace_in system (with_parts (number_data 1) [] (codes "X")) ≡ Err Name
unfolding with_parts trace_in trace_parts
no_such_mode = refl

no_number : trace_in system (with_parts null [] (codes "X")) ≡ Err Shape
unfolding with_parts trace_in trace_parts
no_number = refl

past_the_last_moment : trace_in system (with_parts (number_data 9223372036854775808) [] (codes "X")) ≡ Err Range
unfolding with_parts trace_in trace_parts
past_the_last_moment = refl

no_such_event : trace_in system (with_parts (number_data 1) (list_data (string (codes "take") ∷ number_data 1 ∷ string (codes "Tick") ∷ []) ∷ []) (codes "Main")) ≡ Err Shape
unfolding with_parts trace_in trace_parts parts_of arrive_parts
no_such_event = refl
