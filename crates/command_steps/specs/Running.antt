-- The run of a command whose steps are known: from the steps to the status.
use Rattle.std.specs.Prelude.{◌≡◌, ◌⊎◌, ℕ, List, ◌++◌, Result, Ok, Err}
use Rattle.wcet_io.specs.Files.{FilesOutside, FilesGoOn}
use Rattle.wcet_io.specs.Sink.{SinkOutside}
use Rattle.command_steps.specs.declared.status.Status.{Status}
use Rattle.command_steps.specs.declared.status.Status.TheVariants as status
use Rattle.command_steps.specs.declared.halt.Halt.{Halt}
use Rattle.command_steps.specs.declared.halt.Halt.TheVariants.{Refused, Failed, Memory}
use Rattle.command_steps.specs.Status.{status_of}
use Rattle.command_steps.specs.Steps.{Step}
use Rattle.command_steps.specs.Reports.{Writes, Wrote, IsWriteCall}
use Rattle.command_steps.specs.Outside.{ReadCause, Shows, text_of}

-- How a run ended whose steps read files of these names: the steps gave an answer, or said why there is none; that was
-- written, and this is the status. It says besides what the two objects tell of the outside.
pub record Ran {F O : Type 0} (outside : F → FilesOutside) (shown : O → SinkOutside) (writes : Writes O) (names : List (List ℕ))
    (step : Step F (List ℕ)) (before after : F) (sink_before sink_after : O) (is : Status) : Type 0 where
  pub answered : Result (List ℕ) Halt
  pub steps : step before answered after ⊎ ((after ≡ before) × (answered ≡ Err Memory))
  pub wrote : Wrote (IsWriteCall shown writes) answered sink_before is sink_after
  pub files_go_on : FilesGoOn (outside before) (outside after)
  pub reads : ReadCause names is (outside before) (outside after)
  pub shows : Shows (text_of answered) is (shown sink_before) (shown sink_after)

-- What steps gave is an answer or a refusal, and it was written whole.
abbrev pub Finished : Result (List ℕ) Halt → List ℕ → Status → List ℕ → Type 0
Finished (Ok text) before is after = (is ≡ status.Ok) × (after ≡ before ++ text)
Finished (Err (Refused refusal)) before is after = (is ≡ status_of refusal.reason) × (after ≡ before ++ refusal.text)
Finished (Err (Failed name)) before is after = ⊥
Finished (Err Memory) before is after = ⊥

-- How a run ends over objects that never fail, of which the second holds a list of bytes: with what its steps gave, written
-- whole, or with want of memory.
abbrev pub EndsSurely : {F : Type 0} → Step F (List ℕ) → F → F → List ℕ → List ℕ → Status → Type 0
EndsSurely step before after written_before written_after is =
    (is ≡ status.Memory)
    ⊎ ((answered : Result (List ℕ) Halt) × step before answered after × Finished answered written_before is written_after)
