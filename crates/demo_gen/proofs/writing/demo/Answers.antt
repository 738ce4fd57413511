use Rattle.std.proofs.Common.{◌≡◌, ◌∙◌, List, sym, subst}
use Rattle.std.specs.Prelude.{IfOk}
use Rattle.demo_gen.specs.declared.task.DemoTask.{DemoTask}
use Rattle.demo_gen.specs.Draws.{tasks_of}
use Rattle.demo_gen.specs.Reading.{AreRead}
use Rattle.demo_gen.specs.Working.Drawn.{AreDrawn}
use Rattle.demo_gen.proofs.Ranges.{are_drawn}
use Rattle.demo_gen.proofs.writing.demo.Goals as goal

pub texts-requires : goal.texts-requires
texts-requires c =
    let same : c.deref.result.now ≡ tasks_of c.args.seed c.args.count = c.deref.ensures.value ∙ c.in_ok-tasks.ensures in
    subst AreDrawn (sym same) (are_drawn c.args.seed c.args.count c.requires.some c.requires.few)

pub returns-clause-read : goal.returns-clause-read
returns-clause-read c =
    let same : c.deref.result.now ≡ tasks_of c.args.seed c.args.count = c.deref.ensures.value ∙ c.in_ok-tasks.ensures in
    subst (λ (tasks : List DemoTask). IfOk c.texts.result (AreRead tasks)) same c.texts.ensures.read
