use Rattle.std.proofs.Common.{◌≡◌, true, [], ◌∷◌, ◌++◌, sym, ap, ◌∙◌, subst}
use Rattle.std.specs.BTreeSet.{Updates}
use Rattle.flow_graph.specs.Graph.{node_cmp}
use Rattle.flow_graph.specs.Working.Found.{Adds}
use Rattle.flow_graph.proofs.Nodes.{was_found, is_found, inserted, one_more}
use Rattle.flow_graph.proofs.found.Found.add.Goals as goal

pub returns-then-contains : goal.returns-then-contains
returns-then-contains c =
    subst (λ nodes. Adds c.args.node.now nodes c.self.inside.list.items) c.self.view_is
    (was_found c.self.inside.set c.self.inside.list.items c.args.node.now c.self.invariant (sym c.contains.ensures ∙ c.if-contains.true))

pub invariant_of-result-2 : goal.invariant_of-result-2
invariant_of-result-2 c =
    let items : c.push.new.self.items ≡ c.self.inside.list.items ++ c.args.node.now ∷ [] = c.in_ok-push.ensures.items
    ∙ ap (λ n. c.self.inside.list.items ++ n ∷ []) c.in_ok-node_at-2.ensures in
    let updates : Updates node_cmp c.self.inside.set c.insert.new.self c.args.node.now true = subst
    (λ n. Updates node_cmp c.self.inside.set c.insert.new.self n true) c.in_ok-node_at.ensures c.in_ok-insert.ensures.updates in
    rw items
    (inserted c.self.inside.set c.insert.new.self c.self.inside.list.items c.args.node.now c.self.invariant updates c.in_ok-insert.ensures.ordered
    (one_more c.self.inside.set c.insert.new.self c.args.node.now c.in_ok-node_at.field-0 c.in_ok-insert.field-0
    c.in_ok-node_at.ensures c.in_ok-insert.ensures.added (sym c.contains.ensures ∙ c.if-contains.false) c.in_ok-insert.ensures.len))

pub returns : goal.returns
returns c =
    let items : c.push.new.self.items ≡ c.self.inside.list.items ++ c.args.node.now ∷ [] = c.in_ok-push.ensures.items
    ∙ ap (λ n. c.self.inside.list.items ++ n ∷ []) c.in_ok-node_at-2.ensures in
    rw items (subst (λ nodes. Adds c.args.node.now nodes (c.self.inside.list.items ++ c.args.node.now ∷ [])) c.self.view_is
    (is_found c.self.inside.list.items c.args.node.now))
