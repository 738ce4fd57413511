-- Reports: the text goes to a sink in pieces of 4,096 bytes, the last one shorter, and the run has a status.
use Rattle.std.specs.Prelude.{◌≡◌, ◌⊎◌, ℕ, zero, suc, ◌<◌, List, [], length, take, drop, Result, Ok, Err}
use Rattle.wcet_io.specs.declared.fault.SinkFault.{SinkFault}
use Rattle.wcet_io.specs.declared.fault.SinkFault.TheVariants as sink
use Rattle.wcet_io.specs.Sink.{SinkOutside, IsWrite}
use Rattle.command_steps.specs.declared.status.Status.{Status}
use Rattle.command_steps.specs.declared.status.Status.TheVariants as status
use Rattle.command_steps.specs.declared.halt.Halt.{Halt}
use Rattle.command_steps.specs.declared.halt.Halt.TheVariants.{Refused, Failed, Memory}
use Rattle.command_steps.specs.Status.{status_of}
use Rattle.command_steps.specs.Refusals.{read_text}

-- the calls of `write`: the sink before, the piece, what the call gave, and the sink after
abbrev pub Writes : Type 0 → Type 1
Writes O = O → List ℕ → Result (Unit {0}) SinkFault → O → Type 0

-- `write` was called, and what the sink tells of the outside follows the call.
pub record IsWriteCall {O : Type 0} (outside : O → SinkOutside) (writes : Writes O) (before : O) (piece : List ℕ)
    (given : Result (Unit {0}) SinkFault) (after : O) : Type 0 where
  pub called : writes before piece given after
  pub tells : IsWrite (outside before) piece given (outside after)

-- The text goes to the sink in so many writes: each takes the next 4,096 bytes, or all that is left; or the last one of them is refused.
abbrev pub Puts : {O : Type 0} → Writes O → ℕ → O → List ℕ → Result (Unit {0}) SinkFault → O → Type 0
Puts writes zero before text given after = (text ≡ []) × (given ≡ Ok tt) × (after ≡ before)
Puts {O} writes (suc count) before text given after = (0 < length text)
    × (((between : O) × writes before (take 4096 text) (Ok tt) between × Puts writes count between (drop 4096 text) given after)
    ⊎ ((fault : SinkFault) × writes before (take 4096 text) (Err fault) after × (given ≡ Err fault)))

abbrev pub WritesText : {O : Type 0} → Writes O → O → List ℕ → Result (Unit {0}) SinkFault → O → Type 0
WritesText writes before text given after = (count : ℕ) × Puts writes count before text given after

-- how the run ends, by what came of the writing
abbrev pub ended_by : {T : Type 0} → Status → Result T SinkFault → Status
ended_by ended (Ok done) = ended
ended_by ended (Err sink.Failed) = status.WriteFault
ended_by ended (Err sink.Memory) = status.Memory

-- the whole text is written, and the run ends so; or the writing is refused
abbrev pub Ends : {O : Type 0} → Writes O → List ℕ → Status → O → Status → O → Type 0
Ends writes text ended before is after =
    (given : Result (Unit {0}) SinkFault) × WritesText writes before text given after × (is ≡ ended_by ended given)

-- What is written of what a command's steps gave, and the status. For want of memory nothing is written.
abbrev pub Wrote : {O : Type 0} → Writes O → Result (List ℕ) Halt → O → Status → O → Type 0
Wrote writes (Ok text) before is after = Ends writes text status.Ok before is after
Wrote writes (Err (Refused refusal)) before is after = Ends writes refusal.text (status_of refusal.reason) before is after
Wrote writes (Err (Failed name)) before is after =
    Ends writes (read_text name) status.ReadFault before is after ⊎ ((is ≡ status.Memory) × (after ≡ before))
Wrote writes (Err Memory) before is after = (is ≡ status.Memory) × (after ≡ before)
