-- What `trace record` and `trace judge` say beside a recording.
use Rattle.std.specs.Prelude.{ℕ, List, ◌++◌, codes, Result, Ok, Err}
use Rattle.std.specs.Fmt.{decimal}
use Rattle.command_steps.specs.declared.halt.Refusal.{Refusal}
use Rattle.command_steps.specs.declared.status.Reason.TheVariants.{No, Input, Budget}
use Rattle.command_steps.specs.Refusals.{refusal, newline}
use Rattle.trace_check.specs.declared.fault.TraceKind.{TraceKind}
use Rattle.trace_check.specs.declared.verdict.TraceVerdict.{TraceVerdict}
use Rattle.trace_check.specs.declared.verdict.TraceVerdict.TheVariants.{Fits, NotAWalk, TooClose, OverBound}
use Rattle.trace_check.specs.Kinds.{trace_word}

-- the bytes are no recording
abbrev pub trace_refusal : TraceKind → Refusal
trace_refusal kind = refusal Input (codes "trace " ++ (trace_word kind ++ newline))

-- the recording would have so many events, which are too many
abbrev pub events_refusal : ℕ → Refusal
events_refusal count = refusal Budget (codes "budget events " ++ (decimal count ++ newline))

abbrev pub fits_text : List ℕ
fits_text = codes "fits\n"

-- an event, by its place, that can't come there, that comes too close to an earlier arrival, or at which an activation has lasted too long
abbrev pub walk_refusal : ℕ → Refusal
walk_refusal event = refusal No (codes "walk " ++ (decimal event ++ newline))

abbrev pub close_refusal : ℕ → Refusal
close_refusal event = refusal No (codes "close " ++ (decimal event ++ newline))

abbrev pub over_refusal : ℕ → Refusal
over_refusal event = refusal No (codes "over " ++ (decimal event ++ newline))

-- what is said of a recording with this verdict
abbrev pub saying : TraceVerdict → Result (List ℕ) Refusal
saying Fits = Ok fits_text
saying (NotAWalk event) = Err (walk_refusal event)
saying (TooClose event) = Err (close_refusal event)
saying (OverBound event) = Err (over_refusal event)
