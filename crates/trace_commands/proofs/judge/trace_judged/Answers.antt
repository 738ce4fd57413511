use Rattle.std.proofs.Common.{ℕ, List, inl, inr, subst}
use Rattle.command_steps.specs.Steps.{IsCall}
use Rattle.inputs.specs.declared.subjects.Subject.TheVariants.{Named}
use Rattle.inputs.proofs.Analysing.{is_analysed}
use Rattle.inputs.proofs.Halts.{err_is}
use Rattle.trace_commands.specs.Judge.{JudgeOn}
use Rattle.trace_commands.proofs.judge.trace_judged.Goals as goal

pub returns-in_err-analysed : goal.returns-in_err-analysed
returns-in_err-analysed g c =
    let halt = c.in_err-analysed.field-0.0 in
    inr (halt, c.in_err-analysed.ensures, err_is c.from_residual.result halt c.from_residual.ensures.0 c.from_residual.ensures.1)

pub judge_on-answered-requires : goal.judge_on-answered-requires
judge_on-answered-requires g c =
    (is_analysed g.F.Files.outside g.F.Files.reads c.args.files.now (Named c.args.oil.now c.args.elf.now c.args.timing.now c.args.task.now)
    c.in_ok-analysed.analysed c.read_task.new.files c.in_ok-analysed.ensures).exists

pub returns : goal.returns
returns g c =
    let calls = IsCall g.F.Files.outside g.F.Files.reads in
    let analysed = c.in_ok-analysed.analysed in
    let next = subst
    (λ (name : List ℕ). JudgeOn calls c.args.certificate.now c.args.trace.now name analysed c.read_task.new.files c.judge_on-answered.result c.judge_on-answered.new.files)
    c.as_str.ensures.same c.judge_on-answered.ensures in
    inl (analysed, c.read_task.new.files, c.in_ok-analysed.ensures, next)
