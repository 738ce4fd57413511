-- The links of a task's rows join its columns to chains.
use Rattle.std.proofs.Common.{◌≡◌, ℕ, ◌<◌, true, false, List, length, nat_eq, slice_get, Option, Some, None, option_map, sym, ◌∙◌, ap, arith}
use Rattle.std.specs.Option.{option_map_or}
use Rattle.std.proofs.lemmas.Bool.{eqb-true}
use Rattle.std.proofs.lemmas.Option.{same_Some}
use Rattle.row_squeeze.specs.declared.Link.{Link}
use Rattle.row_squeeze.specs.Links.{HasLink}
use Rattle.wcet_atomic_blocks.specs.Plants.{PlantData}
use Rattle.wcet_atomic_blocks.proofs.EveryNode.{every_node_lies}
use Rattle.abstract_sched.specs.declared.states.AbsState.{AbsState}
use Rattle.row_build.specs.Columns.{Along, Column, Goes, columns}
use Rattle.row_build.specs.Families.{leads_to}
use Rattle.row_build.specs.Links.{links_of}
use Rattle.row_laws.specs.Laws.{LinksJoinColumns}
use Rattle.row_laws.proofs.LinkChains.{node_before, limit_for_all}
use Rattle.row_laws.proofs.LinkFactors.{minus_one_from}
use Rattle.row_laws.proofs.LinkNodes.{IsLinkAt, link_at_is, origin, origin_at}
use Rattle.row_laws.proofs.LinkRanks.{nodes_before, IsEnough, fewer_before}
use Rattle.row_laws.proofs.LinkRows.{IsRowOf, linked, links_counted, leaves_node, link_row}

same_edge : (columns : List Column) (k j : ℕ) (a b : Along) → slice_get columns k ≡ Some (Goes a) → slice_get columns j ≡ Some (Goes b) → k ≡ j → a ≡ b
same_edge columns k j a b at at' same =
    let goes : Goes a ≡ Goes b = same_Some (Goes a) (Goes b) (sym at ∙ ap (slice_get columns) same ∙ at') in cc

same_target : (to : Option ℕ) (node other : ℕ) → option_map_or (nat_eq node) to false ≡ true → option_map_or (nat_eq other) to false ≡ true → node ≡ other
same_target None node other is is' = absurd cc
same_target (Some n) node other is is' = eqb-true node n is ∙ sym (eqb-true other n is')

same_row : (plant : PlantData) (states : List AbsState) (task row other node node' : ℕ) → IsRowOf plant states task row node
    → IsRowOf plant states task other node' → node ≡ node' → row ≡ other
same_row plant states task row other node node' is is' same = let here = is.place in let there = is'.place in omega arith

one_outgoing : (plant : PlantData) (states : List AbsState) (task row other : ℕ) (a b : Link) → HasLink (links_of plant states task) row a
    → HasLink (links_of plant states task) other b → a.outgoing ≡ b.outgoing → row ≡ other
one_outgoing plant states task row other a b has has' same =
    let one = linked plant states task row a has in
    let two = linked plant states task other b has' in
    let is = link_at_is plant states task one.node a one.linked in
    let is' = link_at_is plant states task two.node b two.linked in
    let edge = same_edge (columns plant states task) a.outgoing b.outgoing is.of.outgoing is'.of.outgoing is.of.outgoing_stands is'.of.outgoing_stands same in
    same_row plant states task row other one.node two.node one.row_is two.row_is
    (sym (leaves_node plant states task one.node a is) ∙ ap (λ (e : Along). e.node) edge ∙ leaves_node plant states task two.node b is')

leads_there : (plant : PlantData) (states : List AbsState) (task node : ℕ) (link : Link) → (is : IsLinkAt plant states task node link)
    → leads_to node is.of.incoming ≡ true
leads_there plant states task node link is =
    (minus_one_from (nat_eq is.of.incoming.node node) (leads_to node is.of.incoming) is.of.incoming_factor).1

one_incoming : (plant : PlantData) (states : List AbsState) (task row other : ℕ) (a b : Link) → HasLink (links_of plant states task) row a
    → HasLink (links_of plant states task) other b → a.incoming ≡ b.incoming → row ≡ other
one_incoming plant states task row other a b has has' same =
    let one = linked plant states task row a has in
    let two = linked plant states task other b has' in
    let is = link_at_is plant states task one.node a one.linked in
    let is' = link_at_is plant states task two.node b two.linked in
    let edge = same_edge (columns plant states task) a.incoming b.incoming is.of.incoming is'.of.incoming is.of.incoming_stands is'.of.incoming_stands same in
    same_row plant states task row other one.node two.node one.row_is two.row_is
    (same_target is'.of.incoming.edge.to one.node two.node
    (ap (leads_to one.node) (sym edge) ∙ leads_there plant states task one.node a is)
    (leads_there plant states task two.node b is'))

pub links_join_columns : LinksJoinColumns
links_join_columns plant states task is = record {
  counted = links_counted plant states task;
  each = λ row link has. let here = linked plant states task row link has in
      link_row plant states task row here.node link here.row_is (link_at_is plant states task here.node link here.linked);
  one_outgoing = one_outgoing plant states task;
  one_incoming = one_incoming plant states task;
  rank = λ column. nodes_before (node_before plant states task) limit.0 (origin_at (columns plant states task) column);
  rank_falls = falls;
}
  where
    limit : (limit : ℕ) × ((node : ℕ) → node < length plant.flow.nodes → IsEnough (node_before plant states task) limit node)
    limit = limit_for_all plant states task is (every_node_lies plant is)

    falls : (row : ℕ) (link : Link) → HasLink (links_of plant states task) row link
        → nodes_before (node_before plant states task) limit.0 (origin_at (columns plant states task) link.incoming)
        < nodes_before (node_before plant states task) limit.0 (origin_at (columns plant states task) link.outgoing)
    falls row link has =
        let here = linked plant states task row link has in
        let at = link_at_is plant states task here.node link here.linked in
        let leaves : origin_at (columns plant states task) link.outgoing ≡ here.node =
        ap (λ o. option_map_or origin o 0) at.of.outgoing_stands ∙ leaves_node plant states task here.node link at in
        rw leaves (fewer_before (node_before plant states task) limit.0 here.node (origin_at (columns plant states task) link.incoming)
        (limit.1 here.node here.row_is.within)
        (ap (option_map (λ (l : Link). origin_at (columns plant states task) l.incoming)) here.linked))
