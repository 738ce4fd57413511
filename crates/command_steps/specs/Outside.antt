-- What a command leaves of the outside.
use Rattle.std.specs.Prelude.{◌≡◌, ◌⊎◌, ℕ, List, [], Bool, true, false, Contains, Option, Some, Result, Ok, Err}
use Rattle.wcet_io.specs.Causes.{Rose, HasCause, CountsOn}
use Rattle.wcet_io.specs.Files.{FilesOutside, FilesGoOn}
use Rattle.wcet_io.specs.Sink.{SinkOutside, appended, AppendsPrefix}
use Rattle.command_steps.specs.declared.status.Status.{Status}
use Rattle.command_steps.specs.declared.status.Status.TheVariants as status
use Rattle.command_steps.specs.declared.halt.Halt.{Halt}
use Rattle.command_steps.specs.declared.halt.Halt.TheVariants.{Refused, Failed, Memory}
use Rattle.command_steps.specs.Refusals.{read_text}

-- No read failed.
pub record NoneFailed (before after : FilesOutside) : Type 0 where
  pub faults : after.faults ≡ before.faults
  pub failed : after.failed ≡ before.failed

-- A read of the file with this name, one of these names, failed.
pub record OneFailed (names : List (List ℕ)) (name : List ℕ) (before after : FilesOutside) : Type 0 where
  pub is_named : Contains names name
  pub rose : Rose before.faults after.faults
  pub failed : after.failed ≡ Some name

-- Steps that gave this have its cause: a read failed where they say so, and in no other case but want of memory.
abbrev pub Cause : {X : Type 0} → List (List ℕ) → Result X Halt → FilesOutside → FilesOutside → Type 0
Cause names (Ok x) before after = NoneFailed before after
Cause names (Err (Refused refusal)) before after = NoneFailed before after
Cause names (Err (Failed name)) before after = OneFailed names name before after
Cause names (Err Memory) before after = Unit {0}

-- What steps that read files of these names leave of the outside.
pub record Leaves {X : Type 0} (names : List (List ℕ)) (given : Result X Halt) (before after : FilesOutside) : Type 0 where
  pub goes_on : FilesGoOn before after
  pub cause : Cause names given before after

-- the run ended because a write was refused
abbrev pub is_write_fault : Status → Bool
is_write_fault status.WriteFault = true
is_write_fault _ = false

-- A run that ended with an answer or a refusal had no read that failed, and one that ended with ReadFault had one. Where the
-- report couldn't be written there was one or none, and of a run that ended for want of memory nothing is said.
abbrev pub ReadCause : List (List ℕ) → Status → FilesOutside → FilesOutside → Type 0
ReadCause names status.ReadFault before after = (name : List ℕ) × OneFailed names name before after
ReadCause names status.WriteFault before after = NoneFailed before after ⊎ ((name : List ℕ) × OneFailed names name before after)
ReadCause names status.Memory before after = Unit {0}
ReadCause names _ before after = NoneFailed before after

-- the text that is written of what a command's steps gave
abbrev pub text_of : Result (List ℕ) Halt → List ℕ
text_of (Ok text) = text
text_of (Err (Refused refusal)) = refusal.text
text_of (Err (Failed name)) = read_text name
text_of (Err Memory) = []

-- Of the text a prefix was appended where the run ended with WriteFault or Memory, and else the whole.
abbrev pub Appends : Status → Option (List ℕ) → List ℕ → Option (List ℕ) → Type 0
Appends status.WriteFault before text after = AppendsPrefix before text after
Appends status.Memory before text after = AppendsPrefix before text after
Appends _ before text after = after ≡ appended before text

-- What the run tells of a sink to which this text goes.
pub record Shows (text : List ℕ) (is : Status) (before after : SinkOutside) : Type 0 where
  pub appends : Appends is before.written text after.written
  pub cause : HasCause (is_write_fault is) before.faults after.faults
  pub goes_on : CountsOn before.faults after.faults
