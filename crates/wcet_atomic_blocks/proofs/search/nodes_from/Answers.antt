use Rattle.std.proofs.Common.{rules, ◌≡◌, ℕ, List, length, arith, subst, sym}
use Rattle.std.specs.Prelude.{Contains}
use Rattle.std.proofs.lemmas.List.{nil_from_length}
use Rattle.std.proofs.lemmas.List.Elements.{Contains-push}
use Rattle.wcet_atomic_blocks.specs.Working.Search.{IsSearch, Visits}
use Rattle.wcet_atomic_blocks.proofs.Searching.{search_begins, search_pops, search_ends, members_exist}
use Rattle.wcet_atomic_blocks.proofs.search.nodes_from.Goals as goal

pub loop-node-init : goal.loop-node-init
loop-node-init c =
    let room = c.in_ok-set.ensures.room in let same = c.in_ok-visit.ensures.room in let count = c.nodes.ensures in
    record {
      room = omega (arith, room, same, count);
      search = search_begins c.args.flow.now c.args.first c.in_ok-set.set _ _ c.in_ok-set.ensures.empty
          (subst (λ (p : List ℕ). Visits c.args.first c.in_ok-set.set p c.visit.new.set c.visit.new.pending.items) c.new-pending.ensures.items
          c.in_ok-visit.ensures.visits);
      inside = members_exist c.args.flow.now c.args.first (length c.args.flow.now.nodes) c.requires.edges c.requires.exists;
    }

pub look-requires-clause-exists : goal.look-requires-clause-exists
look-requires-clause-exists c =
    let there : Contains c.loop-node.pending.items c.in-Some.node =
    subst (λ (p : List ℕ). Contains p c.in-Some.node) (sym c.in-Some.ensures.items) (Contains-push c.pop.new.self.items c.in-Some.node) in
    c.loop-node.invariant.inside c.in-Some.node (c.loop-node.invariant.search.sound c.in-Some.node (c.loop-node.invariant.search.found c.in-Some.node there))

pub loop-node-preserved : goal.loop-node-preserved
loop-node-preserved c =
    let same = c.in_ok-look.ensures.room in let was = c.loop-node.invariant.room in
    record {
      room = omega (arith, same, was);
      search = c.in_ok-look.ensures.search c.args.first
          (search_pops c.args.flow.now c.args.first c.in-Some.node c.loop-node.set c.loop-node.pending.items c.pop.new.self.items c.in-Some.ensures.items
          c.loop-node.invariant.search);
      inside = c.loop-node.invariant.inside;
    }

pub returns-clause-complete : goal.returns-clause-complete
returns-clause-complete c =
    let none : length c.loop-node.pending.items ≡ 0 = search rules in
    search_ends c.args.flow.now c.args.first c.loop-node.set
    (subst (IsSearch c.args.flow.now c.args.first c.loop-node.set) (nil_from_length c.loop-node.pending.items none) c.loop-node.invariant.search)
