use Rattle.std.proofs.Common.{sym, subst}
use Rattle.command_steps.specs.Steps.{IsCall}
use Rattle.inputs.specs.declared.subjects.Subject.{Subject}
use Rattle.inputs.specs.Subjects.{AnalysedOf}
use Rattle.inputs.proofs.subjects.read_subject.Goals as goal

pub returns-in-Named : goal.returns-in-Named
returns-in-Named g c =
    let P : Subject → Type 0 = λ s. AnalysedOf (IsCall g.F.Files.outside g.F.Files.reads) s c.args.files.now c.read_task.result c.read_task.new.files in
    subst P (sym c.in-Named.is) c.read_task.ensures
