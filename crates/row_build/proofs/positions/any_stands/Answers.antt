use Rattle.std.proofs.Common.{sym, ◌∙◌}
use Rattle.osek_kernel.specs.Contexts.{context_at}
use Rattle.row_build.specs.declared.numbered.NumberedStart.TheVariants.{In}
use Rattle.row_build.specs.Columns.{may_stand}
use Rattle.row_build.specs.Working.Numbered.{start_of}
use Rattle.row_build.proofs.Growing.{found_in_map}
use Rattle.row_build.proofs.positions.any_stands.Goals as goal

pub returns-then-may_stand : goal.returns-then-may_stand
returns-then-may_stand c =
    found_in_map (may_stand c.args.plant.now c.args.task c.args.node (context_at c.args.plant.now.system c.args.place)) (start_of c.args.states.now)
    c.args.starts.now c.loop-number.number (In 0 0) c.loop-number-test.true (sym c.may_stand.ensures ∙ c.if-may_stand.true)
