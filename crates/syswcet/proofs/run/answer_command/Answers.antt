use Rattle.std.proofs.Common.{Some, refl, sym, subst}
use Rattle.command_steps.specs.Steps.{IsCall}
use Rattle.syswcet.specs.declared.words.Command.{Command}
use Rattle.syswcet.specs.Commands.{StepsOf}
use Rattle.syswcet.proofs.run.answer_command.Goals as goal

pub returns-in-Check : goal.returns-in-Check
returns-in-Check g c =
    let P : Command → Type 0 = λ k. StepsOf (IsCall g.F.Files.outside g.F.Files.reads) (Some k) c.args.files.now c.checked.result c.checked.new.files in
    subst P (sym c.in-Check.is) c.checked.ensures

pub returns-in-Bound : goal.returns-in-Bound
returns-in-Bound g c =
    let P : Command → Type 0 = λ k. StepsOf (IsCall g.F.Files.outside g.F.Files.reads) (Some k) c.args.files.now c.bounded.result c.bounded.new.files in
    subst P (sym c.in-Bound.is) c.bounded.ensures

pub returns-in-Certify : goal.returns-in-Certify
returns-in-Certify g c =
    let P : Command → Type 0 = λ k. StepsOf (IsCall g.F.Files.outside g.F.Files.reads) (Some k) c.args.files.now c.certified.result c.certified.new.files in
    subst P (sym c.in-Certify.is) c.certified.ensures

pub returns-in-All : goal.returns-in-All
returns-in-All g c =
    let P : Command → Type 0 = λ k. StepsOf (IsCall g.F.Files.outside g.F.Files.reads) (Some k) c.args.files.now c.all_bounds.result c.all_bounds.new.files in
    subst P (sym c.in-All.is) c.all_bounds.ensures

pub returns-in-ShowCode : goal.returns-in-ShowCode
returns-in-ShowCode g c =
    let P : Command → Type 0 = λ k. StepsOf (IsCall g.F.Files.outside g.F.Files.reads) (Some k) c.args.files.now c.show_code.result c.show_code.new.files in
    subst P (sym c.in-ShowCode.is) c.show_code.ensures

pub returns-in-Replay : goal.returns-in-Replay
returns-in-Replay g c =
    let P : Command → Type 0 = λ k. StepsOf (IsCall g.F.Files.outside g.F.Files.reads) (Some k) c.args.files.now c.replayed.result c.replayed.new.files in
    subst P (sym c.in-Replay.is) c.replayed.ensures

pub returns-in-TraceRecord : goal.returns-in-TraceRecord
returns-in-TraceRecord g c =
    let P : Command → Type 0 = λ k. StepsOf (IsCall g.F.Files.outside g.F.Files.reads) (Some k) c.args.files.now c.trace_recorded.result c.trace_recorded.new.files in
    subst P (sym c.in-TraceRecord.is) c.trace_recorded.ensures

pub returns-in-TraceJudge : goal.returns-in-TraceJudge
returns-in-TraceJudge g c =
    let P : Command → Type 0 = λ k. StepsOf (IsCall g.F.Files.outside g.F.Files.reads) (Some k) c.args.files.now c.trace_judged.result c.trace_judged.new.files in
    subst P (sym c.in-TraceJudge.is) c.trace_judged.ensures

pub returns-in-Loops : goal.returns-in-Loops
returns-in-Loops g c =
    let P : Command → Type 0 = λ k. StepsOf (IsCall g.F.Files.outside g.F.Files.reads) (Some k) c.args.files.now c.loop_bounds.result c.loop_bounds.new.files in
    subst P (sym c.in-Loops.is) c.loop_bounds.ensures

pub returns-in-SplitCheck : goal.returns-in-SplitCheck
returns-in-SplitCheck g c =
    let P : Command → Type 0 = λ k. StepsOf (IsCall g.F.Files.outside g.F.Files.reads) (Some k) c.args.files.now c.split_checked.result c.split_checked.new.files in
    subst P (sym c.in-SplitCheck.is) c.split_checked.ensures

pub returns-in-SplitFind : goal.returns-in-SplitFind
returns-in-SplitFind g c =
    let P : Command → Type 0 = λ k. StepsOf (IsCall g.F.Files.outside g.F.Files.reads) (Some k) c.args.files.now c.split_found.result c.split_found.new.files in
    subst P (sym c.in-SplitFind.is) c.split_found.ensures
