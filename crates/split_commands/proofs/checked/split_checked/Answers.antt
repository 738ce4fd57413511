use Rattle.std.proofs.Common.{ℕ, List, inl, inr, subst}
use Rattle.command_steps.specs.Steps.{IsCall}
use Rattle.inputs.proofs.Halts.{err_is}
use Rattle.split_commands.specs.Check.{CheckOn}
use Rattle.split_commands.proofs.checked.split_checked.Goals as goal

pub returns-in_err-analysed : goal.returns-in_err-analysed
returns-in_err-analysed g c =
    let halt = c.in_err-analysed.field-0.0 in
    inr (halt, c.in_err-analysed.ensures, err_is c.from_residual.result halt c.from_residual.ensures.0 c.from_residual.ensures.1)

pub returns : goal.returns
returns g c =
    let calls = IsCall g.F.Files.outside g.F.Files.reads in
    let analysed = c.in_ok-analysed.analysed in
    let next = subst
    (λ (name : List ℕ). CheckOn calls c.args.split.now name analysed c.read_task.new.files c.check_on-answered.result c.check_on-answered.new.files)
    c.as_str.ensures.same c.check_on-answered.ensures in
    inl (analysed, c.read_task.new.files, c.in_ok-analysed.ensures, next)
