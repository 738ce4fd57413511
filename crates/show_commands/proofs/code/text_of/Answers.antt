use Rattle.std.proofs.Common.{◌++◌, ap, ◌∙◌, sym}
use Rattle.wcet_atomic_blocks.proofs.LoopLists.{flat_map_counts}
use Rattle.show_commands.specs.ShowCode.{line_of}
use Rattle.show_commands.proofs.code.text_of.Goals as goal

pub loop-context-preserved : goal.loop-context-preserved
loop-context-preserved c =
    c.in_ok-push_line.ensures ∙ ap (λ lines. lines ++ line_of c.args.plant.now c.loop-context.context) c.loop-context.invariant
    ∙ sym (flat_map_counts (line_of c.args.plant.now) c.loop-context.context)
