use Rattle.std.proofs.Common.{map}
use Rattle.row_build.specs.Links.{link_at}
use Rattle.row_build.specs.Working.Numbered.{column_of}
use Rattle.row_build.proofs.LinkLists.{links_more}
use Rattle.row_build.proofs.links_made.push_links.Goals as goal

pub loop-node-preserved : goal.loop-node-preserved
loop-node-preserved c =
    links_more (link_at c.args.plant.now c.args.task (map (column_of c.args.states.now) c.args.columns.now)) c.loop-node.node c.args.links.now c.loop-node.links c.push.new.self
    c.link_at.result c.loop-node.invariant c.link_at.ensures c.in_ok-push.ensures.ok
