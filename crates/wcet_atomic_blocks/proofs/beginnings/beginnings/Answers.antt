use Rattle.std.proofs.Common.{sym, ◌∙◌, ap, ◌++◌, get_or}
use Rattle.wcet_atomic_blocks.specs.Blocks.{beginnings_of}
use Rattle.wcet_atomic_blocks.proofs.BeginLists.{beginnings_more}
use Rattle.wcet_atomic_blocks.proofs.beginnings.beginnings.Goals as goal

pub loop-context-preserved : goal.loop-context-preserved
loop-context-preserved c =
    c.in_ok-push_context.ensures ∙ ap (λ bs. bs ++ beginnings_of c.args.flow.now c.loop-context.context (get_or c.args.entries.now c.loop-context.context 0))
    c.loop-context.invariant
    ∙ sym (beginnings_more c.args.flow.now c.args.entries.now c.loop-context.context 0 c.loop-context-test.true)
