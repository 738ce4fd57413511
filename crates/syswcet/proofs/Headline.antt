-- The headline: from the steps of each command to what its text means.
use Rattle.std.proofs.Common.{◌≡◌, ◌⊎◌, ℕ, List, Option, Some, None, Result, Ok, Err, inl, inr, subst}
use Rattle.wcet_io.specs.Files.{FilesOutside}
use Rattle.wcet_io.specs.Sink.{SinkOutside}
use Rattle.command_steps.specs.declared.status.Status.{Status}
use Rattle.command_steps.specs.declared.status.Status.TheVariants as status
use Rattle.command_steps.specs.declared.halt.Halt.{Halt}
use Rattle.command_steps.specs.declared.halt.Halt.TheVariants as halt
use Rattle.command_steps.specs.Steps.{Calls, IsCall}
use Rattle.command_steps.specs.Reports.{Writes, IsWriteCall, Wrote}
use Rattle.command_steps.specs.Outside.{Appends, Shows, text_of}
use Rattle.command_steps.proofs.Running.{ok_answered, ok_written, shows}
use Rattle.syswcet.specs.declared.words.Command.{Command}
use Rattle.syswcet.specs.declared.words.Command.TheVariants as command
use Rattle.bound_commands.specs.All.{All}
use Rattle.bound_commands.specs.Check.{Check}
use Rattle.syswcet.specs.Commands.{StepsOf}
use Rattle.inputs.specs.Meaning.{AreBytesOf}
use Rattle.syswcet.specs.Headline.{SaysTruly, Means}
use Rattle.show_commands.specs.Replay.{Replay}
use Rattle.show_commands.specs.ShowCode.{ShowCode}
use Rattle.show_commands.specs.ShowOil.{ShowOil}
use Rattle.bound_commands.specs.Solving.{Bound, Certify}
use Rattle.bound_commands.proofs.Headline.{check_says, bound_says, certify_says, all_says}
use Rattle.loops_command.proofs.Headline.{loops_says}
use Rattle.split_commands.proofs.Headline.{split_check_says, split_find_says}
use Rattle.demo_command.proofs.Headline.{demo_says}
use Rattle.trace_commands.proofs.Headline.{trace_record_says, trace_judge_says}
use Rattle.show_commands.proofs.Headline.{show_oil_says, show_code_says, replay_says}

-- ---- all commands

truly : {F : Type 0} (outside : F → FilesOutside) (reads : Calls F) (start : F) (command : Option Command) (text : List ℕ) (after : F)
    → StepsOf (IsCall outside reads) command start (Ok text) after → SaysTruly (AreBytesOf outside reads start) command text
truly outside reads start None text after steps = cc (steps.1)
truly outside reads start (Some (command.Check subject certificate)) text after steps =
    check_says outside reads start subject certificate text after steps
truly outside reads start (Some (command.Bound subject states pivots)) text after steps =
    bound_says outside reads start subject states pivots text after steps
truly outside reads start (Some (command.Certify subject states pivots)) text after steps =
    certify_says outside reads start subject states pivots text after steps
truly outside reads start (Some (command.All oil elf timing states)) text after steps =
    all_says outside reads start oil elf timing states text after steps
truly outside reads start (Some (command.ShowOil oil)) text after steps = show_oil_says outside reads start oil text after steps
truly outside reads start (Some (command.ShowCode oil elf timing)) text after steps = show_code_says outside reads start oil elf timing text after steps
truly outside reads start (Some (command.Replay oil elf timing schedule)) text after steps =
    replay_says outside reads start oil elf timing schedule text after steps
truly outside reads start (Some (command.Loops oil elf timing task states)) text after steps =
    loops_says outside reads start oil elf timing task states text after steps
truly outside reads start (Some (command.SplitCheck oil elf timing task certificate)) text after steps =
    split_check_says outside reads start oil elf timing task certificate text after steps
truly outside reads start (Some (command.SplitFind oil elf timing task states bound cuts)) text after steps =
    split_find_says outside reads start oil elf timing task states bound cuts text after steps
truly outside reads start (Some (command.TraceRecord oil elf timing schedule)) text after steps =
    trace_record_says outside reads start oil elf timing schedule text after steps
truly outside reads start (Some (command.TraceJudge oil elf timing task certificate trace)) text after steps =
    trace_judge_says outside reads start oil elf timing task certificate trace text after steps
truly outside reads start (Some (command.Demo seed count)) text after steps = demo_says outside reads start seed count text after steps

stepped : {F : Type 0} (calls : Calls F) (command : Option Command) (start : F) (answered : Result (List ℕ) Halt) (text : List ℕ) (after : F)
    → answered ≡ Ok text
    → StepsOf calls command start answered after ⊎ ((after ≡ start) × (answered ≡ Err halt.Memory)) → StepsOf calls command start (Ok text) after
stepped calls command start answered text after is (inl steps) = subst (λ (r : Result (List ℕ) Halt). StepsOf calls command start r after) is steps
stepped calls command start answered text after is (inr none) = cc (is, none.1)

pub means : {F O : Type 0} (outside : F → FilesOutside) (reads : Calls F) (shown : O → SinkOutside) (writes : Writes O) (command : Option Command)
    (start after : F) (sink_before sink_after : O) (answered : Result (List ℕ) Halt) (is : Status)
    → StepsOf (IsCall outside reads) command start answered after ⊎ ((after ≡ start) × (answered ≡ Err halt.Memory))
    → Wrote (IsWriteCall shown writes) answered sink_before is sink_after → is ≡ status.Ok
    → Means outside reads start command shown writes sink_before sink_after
means outside reads shown writes command start after sink_before sink_after answered is steps wrote ok =
    let gave : answered ≡ Ok (text_of answered) = ok_answered (IsWriteCall shown writes) answered sink_before is sink_after wrote ok in
    let tells : Shows (text_of answered) is (shown sink_before) (shown sink_after) = shows shown writes answered sink_before is sink_after wrote in
    record {
      text = text_of answered;
      written = ok_written (IsWriteCall shown writes) answered sink_before is sink_after wrote ok;
      told = subst (λ (s : Status). Appends s (shown sink_before).written (text_of answered) (shown sink_after).written) ok tells.appends;
      says = truly outside reads start command (text_of answered) after
          (stepped (IsCall outside reads) command start answered (text_of answered) after gave steps);
    }
