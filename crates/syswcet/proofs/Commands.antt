-- What the steps of each command leave of the outside.
use Rattle.std.proofs.Common.{◌≡◌, [], Option, Some, None, Err}
use Rattle.wcet_io.specs.Files.{FilesOutside}
use Rattle.command_steps.specs.Steps.{Calls, IsCall}
use Rattle.command_steps.proofs.Honest.{IsHonest, judged}
use Rattle.reports.specs.Refusals.{words_refusal}
use Rattle.bound_commands.proofs.Honest.{check_honest, bound_honest, certify_honest, all_honest}
use Rattle.show_commands.proofs.Honest.{show_oil_honest, show_code_honest, replay_honest}
use Rattle.loops_command.proofs.Honest.{loops_honest}
use Rattle.split_commands.proofs.Honest.{split_check_honest, split_find_honest}
use Rattle.demo_command.proofs.Honest.{demo_honest}
use Rattle.trace_commands.proofs.Honest.{trace_record_honest, trace_judge_honest}
use Rattle.syswcet.specs.declared.words.Command.{Command}
use Rattle.syswcet.specs.declared.words.Command.TheVariants as command
use Rattle.syswcet.specs.Commands.{files_of, StepsOf}

-- Each command reads files of these names only.
pub honest : {F : Type 0} (outside : F → FilesOutside) (reads : Calls F) (command : Option Command)
    → IsHonest outside (files_of command) (StepsOf (IsCall outside reads) command)
honest outside reads None = judged outside [] (λ given. given ≡ Err words_refusal)
honest outside reads (Some (command.Check subject certificate)) = check_honest outside reads subject certificate
honest outside reads (Some (command.Bound subject states pivots)) = bound_honest outside reads subject states pivots
honest outside reads (Some (command.Certify subject states pivots)) = certify_honest outside reads subject states pivots
honest outside reads (Some (command.All oil elf timing states)) = all_honest outside reads oil elf timing states
honest outside reads (Some (command.ShowOil oil)) = show_oil_honest outside reads oil
honest outside reads (Some (command.ShowCode oil elf timing)) = show_code_honest outside reads oil elf timing
honest outside reads (Some (command.Replay oil elf timing schedule)) = replay_honest outside reads oil elf timing schedule
honest outside reads (Some (command.Loops oil elf timing task states)) = loops_honest outside reads oil elf timing task states
honest outside reads (Some (command.SplitCheck oil elf timing task certificate)) =
    split_check_honest outside reads oil elf timing task certificate
honest outside reads (Some (command.SplitFind oil elf timing task states bound cuts)) =
    split_find_honest outside reads oil elf timing task states bound cuts
honest outside reads (Some (command.TraceRecord oil elf timing schedule)) = trace_record_honest outside reads oil elf timing schedule
honest outside reads (Some (command.TraceJudge oil elf timing task certificate trace)) =
    trace_judge_honest outside reads oil elf timing task certificate trace
honest outside reads (Some (command.Demo seed count)) = demo_honest outside reads [] seed count
