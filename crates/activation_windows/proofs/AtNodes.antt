-- A context that stands at a node: the node is there and is its own, and the block that it began last holds it.
use Rattle.std.proofs.Common.{◌≡◌, ℕ, ◌<◌, true, false, List, length, Option, Some, None, refl, sym, ◌∙◌, ap, subst}
use Rattle.std.specs.Prelude.{slice_get, option_and_then, option_map}
use Rattle.std.specs.Option.{option_map_or}
use Rattle.std.proofs.lemmas.Option.{none-some, same_Some, slice_get_within}
use Rattle.rv32_machine.specs.ContextStep.{Standing}
use Rattle.osek_kernel.specs.declared.context.Context.{Context}
use Rattle.osek_kernel.specs.Contexts.{IsContext, place_of, context_at}
use Rattle.osek_kernel.specs.Positions.{position_of}
use Rattle.osek_machine.specs.State.{MachineState, standing_of}
use Rattle.osek_machine.specs.Events.{Event}
use Rattle.flow_graph.specs.declared.node.Node.{Node}
use Rattle.wcet_atomic_blocks.specs.declared.block.Block.{Block}
use Rattle.wcet_atomic_blocks.specs.NodeSets.{holds}
use Rattle.wcet_atomic_blocks.specs.PlantLaws.{HasNode}
use Rattle.wcet_atomic_blocks.specs.Plants.{PlantData}
use Rattle.abstract_sched.specs.declared.states.AbsState.{AbsState}
use Rattle.scheduler_moves.specs.Moves.{blocks_in}
use Rattle.shadow_runs.specs.Shadow.{node_of, begun}
use Rattle.shadow_runs.proofs.Numbers.{IsAtNode, at_node}
use Rattle.shadow_runs.proofs.Planted.{there_is}
use Rattle.row_build.specs.Columns.{holds_in, owner_of}
use Rattle.activation_windows.specs.Counted.{IsDeclaredCase}
use Rattle.activation_windows.specs.Windows.{shadow_after, nodes_after}
use Rattle.activation_windows.proofs.Induction.{covers_of, covered_of, shadow_is}
use Rattle.activation_windows.proofs.Nodes.{context_there, nodes_are}

-- ---- Where a standing is

-- the node of a context that stands somewhere
pub at_node_of : (plant : PlantData) (states : List AbsState) (task mode : ℕ) (events : List Event) (state : MachineState) (context : Context)
    (standing : Standing) → IsDeclaredCase plant states task mode events state → IsContext plant.system context
    → standing_of plant.system state context ≡ Some standing → IsAtNode plant context standing
at_node_of plant states task mode events state context standing case exists stands =
    at_node plant case.of.belongs context standing
    ((covers_of plant states task mode events state case).walking.walks context standing exists stands)

-- A context that stands at the node of that number.
pub record StandsHere (plant : PlantData) (mode : ℕ) (events : List Event) (state : MachineState) (context : Context) (node : ℕ) : Type 0 where
  pub standing : Standing
  pub stands : standing_of plant.system state context ≡ Some standing
  pub found : node_of plant context standing ≡ Some node
  pub at : Node
  pub listed : slice_get plant.flow.nodes node ≡ Some at
  pub context_is : at.context ≡ place_of plant.system context
  -- the block that it began last holds the node
  pub block : ℕ
  pub began : position_of plant.system (begun plant mode events) context ≡ Some block
  pub inside : HasNode plant node block

joined : {A B : Type 0} (f : A → Option B) (o : Option A) (y : B) → option_and_then f o ≡ Some y → (x : A) × (o ≡ Some x) × (f x ≡ Some y)
joined f None y e = absurd (none-some y e)
joined f (Some x) y e = (x, refl, e)

pub stands_here : (plant : PlantData) (states : List AbsState) (task mode : ℕ) (events : List Event) (state : MachineState) (context : Context) (node : ℕ)
    → IsDeclaredCase plant states task mode events state → IsContext plant.system context
    → position_of plant.system (nodes_after plant mode events) context ≡ Some node
    → StandsHere plant mode events state context node
stands_here plant states task mode events state context node case exists e =
    let there = joined (node_of plant context) (standing_of plant.system state context) node
    (sym (nodes_are plant states task mode events state case context exists) ∙ e) in
    let at = at_node_of plant states task mode events state context there.0 case exists there.1 in
    let same : at.number ≡ node = same_Some at.number node (sym at.found ∙ there.2) in
    let inside = (covered_of plant states task mode events state case).inside context there.0 exists there.1 in
    let node_is : inside.node ≡ node = same_Some inside.node node (sym inside.stands ∙ there.2) in
    record {
      standing = there.0;
      stands = there.1;
      found = there.2;
      at = at.node;
      listed = ap (slice_get plant.flow.nodes) (sym same) ∙ at.listed;
      context_is = at.context_is;
      block = inside.block;
      began = inside.began;
      inside = subst (λ (n : ℕ). HasNode plant n inside.block) node_is inside.inside;
    }

-- ---- What follows

pub node_within : (plant : PlantData) (mode : ℕ) (events : List Event) (state : MachineState) (context : Context) (node : ℕ)
    → StandsHere plant mode events state context node → node < length plant.flow.nodes
node_within plant mode events state context node here = slice_get_within plant.flow.nodes node here.at here.listed

-- the node is the context's
pub owner_is : (plant : PlantData) (mode : ℕ) (events : List Event) (state : MachineState) (context : Context) (node : ℕ)
    → IsContext plant.system context → StandsHere plant mode events state context node → owner_of plant node ≡ Some context
owner_is plant mode events state context node exists here =
    ap (option_map (λ (n : Node). context_at plant.system n.context)) here.listed
    ∙ ap Some (ap (context_at plant.system) here.context_is ∙ context_there plant.system context exists)

-- the shadow has the context in a block that holds the node
pub shadow_holds : (plant : PlantData) (states : List AbsState) (task mode : ℕ) (events : List Event) (state : MachineState) (context : Context) (node : ℕ)
    → IsDeclaredCase plant states task mode events state → StandsHere plant mode events state context node
    → holds_in plant (shadow_after plant mode events) context node ≡ true
shadow_holds plant states task mode events state context node case here =
    let blocks : blocks_in plant (shadow_after plant mode events) ≡ begun plant mode events =
    ap (blocks_in plant) (shadow_is plant mode events state case.of.run) ∙ (covered_of plant states task mode events state case).blocks in
    let block = there_is (slice_get plant.blocks.blocks here.block) (λ b. holds b.nodes node ≡ true) here.inside in
    ap (λ (bs : List (Option ℕ)). option_map_or (λ (b : Block). holds b.nodes node)
    (option_and_then (slice_get plant.blocks.blocks) (position_of plant.system bs context)) false) blocks
    ∙ (ap (λ (o : Option ℕ). option_map_or (λ (b : Block). holds b.nodes node) (option_and_then (slice_get plant.blocks.blocks) o) false) here.began
    ∙ (ap (λ (o : Option Block). option_map_or (λ (b : Block). holds b.nodes node) o false) block.there ∙ block.holds))
