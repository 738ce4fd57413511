-- No chain of links comes back to where it began.
use Rattle.std.proofs.Common.{◌≡◌, ℕ, ◌<◌, true, List, length, slice_get, Option, Some, None, IsSomeAnd, option_map, inl, inr, refl, sym, ◌∙◌, ap, subst}
use Rattle.std.proofs.lemmas.Bool.{cases_eq}
use Rattle.row_squeeze.specs.declared.Link.{Link}
use Rattle.wcet_atomic_blocks.specs.declared.block.Block.{Block}
use Rattle.wcet_atomic_blocks.specs.Blocks.{IsInBlock, begins, along, IsBlock}
use Rattle.wcet_atomic_blocks.specs.NodeSets.{holds}
use Rattle.wcet_atomic_blocks.specs.PlantLaws.{EveryNodeLies}
use Rattle.wcet_atomic_blocks.specs.Plants.{PlantData, IsPlant}
use Rattle.wcet_atomic_blocks.proofs.GraphFacts.{at_slice}
use Rattle.abstract_sched.specs.declared.states.AbsState.{AbsState}
use Rattle.row_build.specs.Columns.{columns}
use Rattle.row_build.specs.Links.{link_at}
use Rattle.row_laws.proofs.LinkNodes.{link_at_is, no_block_begins, origin_at, comes_from}
use Rattle.row_laws.proofs.LinkRanks.{HasLimit, IsEnough, first_has_limit, next_has_limit, one_limit}

-- where the link of the node leads
abbrev pub node_before : PlantData → List AbsState → ℕ → ℕ → Option ℕ
node_before plant states task node =
    option_map (λ link. origin_at (columns plant states task) link.incoming) (link_at plant task (columns plant states task) node)

before_is : (plant : PlantData) (states : List AbsState) (task node : ℕ) (o : Option Link) → link_at plant task (columns plant states task) node ≡ o
    → node_before plant states task node ≡ option_map (λ link. origin_at (columns plant states task) link.incoming) o
before_is plant states task node o is = ap (option_map (λ link. origin_at (columns plant states task) link.incoming)) is

limit_in : (plant : PlantData) (states : List AbsState) (task : ℕ) → IsPlant plant → (number : ℕ) (block : Block)
    → slice_get plant.blocks.blocks number ≡ Some block → (node : ℕ) → IsInBlock plant.flow block.begin.first node
    → HasLimit (node_before plant states task) node
limit_in plant states task is number block at node (begins _ first) = by (link_at plant task (columns plant states task) node) refl
  where
    by : (o : Option Link) → link_at plant task (columns plant states task) node ≡ o → HasLimit (node_before plant states task) node
    by None none = first_has_limit (node_before plant states task) node (before_is plant states task node None none)
    by (Some link) has =
        absurd (no_block_begins plant states task node link number block (link_at_is plant states task node link has) at (sym first))
limit_in plant states task is number block at node (along other _ reached instruction edge) =
    by (link_at plant task (columns plant states task) node) refl (limit_in plant states task is number block at other reached)
  where
    by : (o : Option Link) → link_at plant task (columns plant states task) node ≡ o → HasLimit (node_before plant states task) other
        → HasLimit (node_before plant states task) node
    by None none limit = first_has_limit (node_before plant states task) node (before_is plant states task node None none)
    by (Some link) has limit = elim (cases_eq other node) [
      | inl same ↦ subst (HasLimit (node_before plant states task)) same limit
      | inr apart ↦ next_has_limit (node_before plant states task) node other
          (before_is plant states task node (Some link) has
          ∙ ap Some (comes_from plant states task node link other is (link_at_is plant states task node link has) apart instruction edge)) limit
    ]

found : {X : Type 0} (o : Option X) (P : X → Type 0) → IsSomeAnd o P → (x : X) × (o ≡ Some x) × P x
found (Some x) P p = (x, refl, p)
found None P p = absurd p

limit_of : (plant : PlantData) (states : List AbsState) (task : ℕ) → IsPlant plant → EveryNodeLies plant → (node : ℕ) → node < length plant.flow.nodes
    → HasLimit (node_before plant states task) node
unfolding EveryNodeLies
limit_of plant states task is each node within =
    let lies = each node within in
    let block = found (slice_get plant.blocks.blocks lies.0) (λ (b : Block). holds b.nodes node ≡ true) lies.1 in
    let cut : IsBlock plant.flow block.0 = at_slice (IsBlock plant.flow) plant.blocks.blocks lies.0 block.0 is.blocks.cut.each block.1 in
    limit_in plant states task is lies.0 block.0 block.1 node (cut.sound node block.2)

-- one limit for all nodes
pub limit_for_all : (plant : PlantData) (states : List AbsState) (task : ℕ) → IsPlant plant → EveryNodeLies plant
    → (limit : ℕ) × ((node : ℕ) → node < length plant.flow.nodes → IsEnough (node_before plant states task) limit node)
limit_for_all plant states task is each =
    one_limit (node_before plant states task) (length plant.flow.nodes) (limit_of plant states task is each)
