use Rattle.std.proofs.Common.{◌∙◌}
use Rattle.std.specs.Prelude.{bytes_eq}
use Rattle.trace_check.proofs.Naming.{in_first, in_second}
use Rattle.trace_check.proofs.names.context_among.Goals as goal

pub returns-in-Some : goal.returns-in-Some
returns-in-Some c =
    in_first (λ known. bytes_eq known c.args.name.now) (λ x. x.name) (λ y. y.name) c.args.tasks.now c.args.isrs.now _ c.in-Some.ensures

pub returns-in-None : goal.returns-in-None
returns-in-None c =
    c.isr_behind.ensures
    ∙ in_second (λ known. bytes_eq known c.args.name.now) (λ x. x.name) (λ y. y.name) c.args.tasks.now c.args.isrs.now c.in-None.ensures
