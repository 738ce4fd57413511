use Rattle.std.proofs.Common.{ℕ, List, inl, subst}
use Rattle.command_steps.specs.Steps.{IsCall}
use Rattle.bound_commands.specs.Solving.{BoundOn}
use Rattle.bound_commands.proofs.solving.bounded.Goals as goal

pub returns : goal.returns
returns g c =
    let calls = IsCall g.F.Files.outside g.F.Files.reads in
    let analysed = c.in_ok-analysed.analysed in
    let next = subst
    (λ (name : List ℕ). BoundOn calls c.args.states.now c.args.pivots name analysed c.read_subject.new.files c.bound_on-answered.result c.bound_on-answered.new.files)
    c.name.ensures c.bound_on-answered.ensures in
    inl (analysed, c.read_subject.new.files, c.in_ok-analysed.ensures, next)
