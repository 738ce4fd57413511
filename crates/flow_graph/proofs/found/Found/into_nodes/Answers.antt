use Rattle.std.proofs.Common.{◌≡◌, sym, ◌∙◌, subst}
use Rattle.std.proofs.lemmas.List.{map-id}
use Rattle.std.proofs.lemmas.Map.Iter.{iter_end}
use Rattle.flow_graph.specs.declared.node.Node.{Node}
use Rattle.flow_graph.specs.Working.Found.{AreOrdered}
use Rattle.flow_graph.proofs.found.Found.into_nodes.Goals as goal

pub returns : goal.returns
returns c =
    let all = iter_end (λ (n : Node). n) c.self.inside.set.keys c.loop-node.yielded
    c.into_iter-node-iterator.result c.loop-node.node-iterator c.next.new.self c.next.result
    c.into_iter-node-iterator.ensures.into_iter_gives.0 c.loop-node.yielded_by c.in-None.is c.next.ensures.steps in
    let nodes : c.loop-node.nodes ≡ c.self.inside.set.keys = c.loop-node.invariant ∙ (sym (map-id _) ∙ all.0) in
    rw nodes (subst (λ found. AreOrdered found c.self.inside.set.keys) c.self.view_is c.self.invariant)
