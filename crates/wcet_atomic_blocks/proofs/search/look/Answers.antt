use Rattle.std.proofs.Common.{ℕ, ◌<◌, List, length, arith, ◌∙◌, sym, subst}
use Rattle.flow_graph.specs.declared.edge.Edge.{Edge}
use Rattle.wcet_atomic_blocks.specs.Working.Search.{LeadsAt, IsVisiting}
use Rattle.wcet_atomic_blocks.proofs.Searching.{look_passes, look_follows, edge_of, on_ok}
use Rattle.wcet_atomic_blocks.proofs.search.look.Goals as goal

pub returns-then-is_some-clause-search : goal.returns-then-is_some-clause-search
returns-then-is_some-clause-search c =
    look_passes c.args.flow.now c.args.node c.get-leaving.result.now _ _ c.get-leaving.ensures (sym c.is_some.ensures ∙ c.if-is_some.true)

pub follow-requires : goal.follow-requires
follow-requires c = λ k next leads.
    let there : LeadsAt c.get-leaving.result.now.edges k next = subst (λ (es : List (Edge ℕ)). LeadsAt es k next) c.as_slice.ensures leads in
    let below : next < length c.args.flow.now.nodes =
    c.requires.edges c.args.node next (edge_of c.args.flow.now c.args.node c.get-leaving.result.now c.get-leaving.ensures k next there) in
    let room = c.requires.room in omega arith

pub returns-clause-search : goal.returns-clause-search
returns-clause-search c = on_ok c.follow.result c.follow.ensures.visiting (λ visiting.
    look_follows c.args.flow.now c.args.node c.get-leaving.result.now _ _ _ _ c.get-leaving.ensures (sym c.is_some.ensures ∙ c.if-is_some.false)
    (subst (λ (es : List (Edge ℕ)). IsVisiting es (length es) c.args.set.now c.args.pending.now.items c.follow.new.set c.follow.new.pending.items)
    c.as_slice.ensures visiting))
