-- The commands: the files that each reads, and its steps.
use Rattle.std.specs.Prelude.{◌≡◌, ℕ, List, [], ◌∷◌, ◌++◌, Option, Some, None, Err}
use Rattle.command_steps.specs.Steps.{Calls, Step, Judged}
use Rattle.reports.specs.Refusals.{words_refusal}
use Rattle.inputs.specs.Subjects.{subject_files}
use Rattle.syswcet.specs.declared.words.Command.{Command}
use Rattle.syswcet.specs.declared.words.Command.TheVariants as command
use Rattle.bound_commands.specs.All.{All}
use Rattle.bound_commands.specs.Check.{Check}
use Rattle.show_commands.specs.Replay.{Replay}
use Rattle.show_commands.specs.ShowCode.{ShowCode}
use Rattle.show_commands.specs.ShowOil.{ShowOil}
use Rattle.bound_commands.specs.Solving.{Bound, Certify}
use Rattle.loops_command.specs.Loops.{Loops}
use Rattle.split_commands.specs.Check.{CheckSplit}
use Rattle.split_commands.specs.Find.{FindSplit}
use Rattle.trace_commands.specs.Judge.{TraceJudge}
use Rattle.trace_commands.specs.Record.{TraceRecord}
use Rattle.demo_command.specs.Demo.{Demo}

-- the names of the files that a command reads; words that have no shape name none
abbrev pub files_of : Option Command → List (List ℕ)
files_of None = []
files_of (Some (command.Check subject certificate)) = subject_files subject ++ certificate ∷ []
files_of (Some (command.Bound subject states pivots)) = subject_files subject ++ states ∷ []
files_of (Some (command.Certify subject states pivots)) = subject_files subject ++ states ∷ []
files_of (Some (command.All oil elf timing states)) = oil ∷ elf ∷ timing ∷ states ∷ []
files_of (Some (command.ShowOil oil)) = oil ∷ []
files_of (Some (command.ShowCode oil elf timing)) = oil ∷ elf ∷ timing ∷ []
files_of (Some (command.Replay oil elf timing schedule)) = oil ∷ elf ∷ timing ∷ schedule ∷ []
files_of (Some (command.Loops oil elf timing task states)) = oil ∷ elf ∷ timing ∷ states ∷ []
files_of (Some (command.SplitCheck oil elf timing task certificate)) = oil ∷ elf ∷ timing ∷ certificate ∷ []
files_of (Some (command.SplitFind oil elf timing task states bound cuts)) = oil ∷ elf ∷ timing ∷ states ∷ []
files_of (Some (command.TraceRecord oil elf timing schedule)) = oil ∷ elf ∷ timing ∷ schedule ∷ []
files_of (Some (command.TraceJudge oil elf timing task certificate trace)) = oil ∷ elf ∷ timing ∷ certificate ∷ trace ∷ []
files_of (Some (command.Demo seed count)) = []

abbrev pub StepsOf : {F : Type 0} → Calls F → Option Command → Step F (List ℕ)
StepsOf calls None = Judged (λ given. given ≡ Err words_refusal)
StepsOf calls (Some (command.Check subject certificate)) = Check calls subject certificate
StepsOf calls (Some (command.Bound subject states pivots)) = Bound calls subject states pivots
StepsOf calls (Some (command.Certify subject states pivots)) = Certify calls subject states pivots
StepsOf calls (Some (command.All oil elf timing states)) = All calls oil elf timing states
StepsOf calls (Some (command.ShowOil oil)) = ShowOil calls oil
StepsOf calls (Some (command.ShowCode oil elf timing)) = ShowCode calls oil elf timing
StepsOf calls (Some (command.Replay oil elf timing schedule)) = Replay calls oil elf timing schedule
StepsOf calls (Some (command.Loops oil elf timing task states)) = Loops calls oil elf timing task states
StepsOf calls (Some (command.SplitCheck oil elf timing task certificate)) = CheckSplit calls oil elf timing task certificate
StepsOf calls (Some (command.SplitFind oil elf timing task states bound cuts)) = FindSplit calls oil elf timing task states bound cuts
StepsOf calls (Some (command.TraceRecord oil elf timing schedule)) = TraceRecord calls oil elf timing schedule
StepsOf calls (Some (command.TraceJudge oil elf timing task certificate trace)) = TraceJudge calls oil elf timing task certificate trace
StepsOf calls (Some (command.Demo seed count)) = Demo calls seed count
