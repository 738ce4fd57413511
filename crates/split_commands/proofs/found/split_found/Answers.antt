use Rattle.std.proofs.Common.{ℕ, List, inl, inr, subst}
use Rattle.command_steps.specs.Steps.{IsCall}
use Rattle.inputs.proofs.Halts.{err_is}
use Rattle.split_commands.specs.Find.{FindOn}
use Rattle.split_commands.proofs.found.split_found.Goals as goal

pub returns-in_err-analysed : goal.returns-in_err-analysed
returns-in_err-analysed g c =
    let halt = c.in_err-analysed.field-0.0 in
    inr (halt, c.in_err-analysed.ensures, err_is c.from_residual.result halt c.from_residual.ensures.0 c.from_residual.ensures.1)

pub returns : goal.returns
returns g c =
    let calls = IsCall g.F.Files.outside g.F.Files.reads in
    let analysed = c.in_ok-analysed.analysed in
    let bound = c.args.wanted.bound in
    let cuts = c.args.wanted.cuts in
    let next = subst
    (λ (name : List ℕ). FindOn calls c.args.states.now bound cuts name analysed c.read_task.new.files c.find_on-answered.result c.find_on-answered.new.files)
    c.as_str.ensures.same c.find_on-answered.ensures in
    inl (analysed, c.read_task.new.files, c.in_ok-analysed.ensures, next)
