use Rattle.std.proofs.Common.{rules, Some, None}
use Rattle.wcet_atomic_blocks.specs.Blocks.{at_entry, beginning_behind}
use Rattle.wcet_atomic_blocks.proofs.BeginLists.{push_more}
use Rattle.wcet_atomic_blocks.proofs.beginnings.push_context.Goals as goal
use Rattle.wcet_atomic_blocks.proofs.beginnings.push_context.Goals.{in-Some+in_ok-push-2, in_default}

pub loop-node-preserved : goal.loop-node-preserved
loop-node-preserved c = elim c.match-beginning_behind.branch [
  | in-Some+in_ok-push-2 w ↦
      push_more (beginning_behind c.args.flow.now c.args.context) c.loop-node.node c.args.begins.now.items (at_entry c.args.context c.args.entry)
      c.loop-node.begins.items _ (Some w.in-Some.begin)
      (search rules) c.loop-node.invariant (search rules)
  | in_default w ↦
      push_more (beginning_behind c.args.flow.now c.args.context) c.loop-node.node c.args.begins.now.items (at_entry c.args.context c.args.entry)
      c.loop-node.begins.items _ None
      (search rules) c.loop-node.invariant (search rules)
]
