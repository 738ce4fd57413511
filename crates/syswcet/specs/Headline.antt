-- The headline: what it means that a command ended with status 0. Each command has one equation. Of a bound it says: in every run
-- of the OSEK machine over the system, the image and the timing that the files are, which keeps what is declared (the distances of
-- arrivals, the bounds of loops, paired returns, code that isn't written and the costs of steps), no activation of the task lasts
-- longer, ended or not: nothing of the analysis stands in that.
use Rattle.std.specs.Prelude.{◌≡◌, ℕ, List, Option, Some, None, Ok}
use Rattle.wcet_io.specs.Files.{FilesOutside}
use Rattle.wcet_io.specs.Sink.{SinkOutside, appended}
use Rattle.command_steps.specs.Steps.{Calls}
use Rattle.command_steps.specs.Reports.{Writes, IsWriteCall, WritesText}
use Rattle.reports.specs.Verdicts.{yes_text}
use Rattle.reports.specs.Solved.{bound_text}
use Rattle.inputs.specs.Meaning.{AreBytesOf, OfSystem, BoundsSubject}
use Rattle.inputs.specs.Subjects.{name_of}
use Rattle.inputs.specs.declared.subjects.Subject.TheVariants.{Named}
use Rattle.bound_commands.specs.Bounded.{BoundsAll, HasBound}
use Rattle.show_commands.specs.Shown.{ShowsLayout, ShowsCode, ReplaysSchedule}
use Rattle.loops_command.specs.Meaning.{BoundsByCode}
use Rattle.trace_commands.specs.Meaning.{RecordsRun, JudgesFit}
use Rattle.demo_command.specs.Meaning.{BoundsDemo}
use Rattle.syswcet.specs.declared.words.Command.{Command}
use Rattle.syswcet.specs.declared.words.Command.TheVariants as command

-- What the text of each command means of the bytes of its files.

abbrev pub SaysTruly : (List ℕ → List ℕ → Type 0) → Option Command → List ℕ → Type 0
SaysTruly Bytes None text = ⊥
SaysTruly Bytes (Some (command.Check subject certificate)) text =
    (bound : ℕ) × (text ≡ yes_text (name_of subject) bound) × BoundsSubject Bytes subject bound
SaysTruly Bytes (Some (command.Bound subject states pivots)) text =
    (bound : ℕ) × (text ≡ bound_text (name_of subject) bound) × BoundsSubject Bytes subject bound
SaysTruly Bytes (Some (command.Certify subject states pivots)) text =
    (bound : ℕ) × HasBound text bound × BoundsSubject Bytes subject bound
SaysTruly Bytes (Some (command.All oil elf timing states)) text = OfSystem Bytes oil elf timing (BoundsAll text)
SaysTruly Bytes (Some (command.ShowOil oil)) text = (bytes : List ℕ) × Bytes oil bytes × ShowsLayout bytes text
SaysTruly Bytes (Some (command.ShowCode oil elf timing)) text = OfSystem Bytes oil elf timing (ShowsCode text)
SaysTruly Bytes (Some (command.Replay oil elf timing schedule)) text =
    (s : List ℕ) × Bytes schedule s × OfSystem Bytes oil elf timing (ReplaysSchedule s text)
SaysTruly Bytes (Some (command.Loops oil elf timing task states)) text = OfSystem Bytes oil elf timing (BoundsByCode task text)
SaysTruly Bytes (Some (command.SplitCheck oil elf timing task certificate)) text =
    (bound : ℕ) × (text ≡ yes_text task bound) × BoundsSubject Bytes (Named oil elf timing task) bound
SaysTruly Bytes (Some (command.SplitFind oil elf timing task states bound cuts)) text =
    HasBound text bound × BoundsSubject Bytes (Named oil elf timing task) bound
SaysTruly Bytes (Some (command.TraceRecord oil elf timing schedule)) text =
    (s : List ℕ) × Bytes schedule s × OfSystem Bytes oil elf timing (RecordsRun s text)
SaysTruly Bytes (Some (command.TraceJudge oil elf timing task certificate trace)) text =
    (c : List ℕ) × Bytes certificate c × ((b : List ℕ) × Bytes trace b × OfSystem Bytes oil elf timing (JudgesFit task c b text))
SaysTruly Bytes (Some (command.Demo seed count)) text = BoundsDemo seed count text

-- Calls of `write` took a text whole, so that it was appended where the sink tells what it holds, and it says what the command is for.
pub record Means {F O : Type 0} (outside : F → FilesOutside) (reads : Calls F) (start : F) (command : Option Command)
    (shown : O → SinkOutside) (writes : Writes O) (before after : O) : Type 0 where
  pub text : List ℕ
  pub written : WritesText (IsWriteCall shown writes) before text (Ok tt) after
  pub told : (shown after).written ≡ appended (shown before).written text
  pub says : SaysTruly (AreBytesOf outside reads start) command text
