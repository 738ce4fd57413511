-- What holds of every plant.
use Rattle.std.specs.Prelude.{◌≡◌, ◌≢◌, ℕ, ◌<◌, true, false, length, slice_get, Some, None, IsSomeAnd}
use Rattle.flow_graph.specs.declared.flow.Flow.{Flow}
use Rattle.flow_graph.specs.declared.node.Node.{Node}
use Rattle.flow_graph.specs.Graph.{entries_of}
use Rattle.wcet_atomic_blocks.specs.declared.block.Block.{Block}
use Rattle.wcet_atomic_blocks.specs.NodeSets.{holds}
use Rattle.wcet_atomic_blocks.specs.Blocks.{HasEdge, is_of, is_service, successor}
use Rattle.wcet_atomic_blocks.specs.Plants.{PlantData, IsEntryNode}

-- edges stay among the nodes
unfoldable pub EdgesStay : PlantData → Type 0
EdgesStay plant = (node next : ℕ) → HasEdge plant.flow node next → next < length plant.flow.nodes

-- the two nodes are of one context
pub record AreOfOneContext (flow : Flow) (node next : ℕ) : Type 0 where
  pub before : Node
  pub stands : slice_get flow.nodes node ≡ Some before
  pub after : Node
  pub stands_too : slice_get flow.nodes next ≡ Some after
  pub same : after.context ≡ before.context

-- an edge keeps the context
unfoldable pub EdgesKeepContext : PlantData → Type 0
EdgesKeepContext plant = (node next : ℕ) → HasEdge plant.flow node next → AreOfOneContext plant.flow node next

-- the first node of a block is in it
unfoldable pub FirstIsInside : PlantData → Type 0
FirstIsInside plant = (number : ℕ) (block : Block) → slice_get plant.blocks.blocks number ≡ Some block → holds block.nodes block.begin.first ≡ true

-- a block is closed under the edges of its nodes that are no ECALLs
unfoldable pub BlocksAreClosed : PlantData → Type 0
BlocksAreClosed plant =
    (number : ℕ) (block : Block) (node next : ℕ) → slice_get plant.blocks.blocks number ≡ Some block → holds block.nodes node ≡ true
    → is_service plant.flow node ≡ false → HasEdge plant.flow node next → holds block.nodes next ≡ true

-- every node of a block is of the block's context
unfoldable pub NodesAreOfOwner : PlantData → Type 0
NodesAreOfOwner plant =
    (number : ℕ) (block : Block) (node : ℕ) → slice_get plant.blocks.blocks number ≡ Some block → holds block.nodes node ≡ true
    → is_of plant.flow block.begin.owner node ≡ true

-- the block of that number has the node
abbrev pub HasNode : PlantData → ℕ → ℕ → Type 0
HasNode plant node number = IsSomeAnd (slice_get plant.blocks.blocks number) (λ block. holds block.nodes node ≡ true)

-- every node lies in a block
unfoldable pub EveryNodeLies : PlantData → Type 0
EveryNodeLies plant = (node : ℕ) → node < length plant.flow.nodes → (number : ℕ) × HasNode plant node number

-- a block of the context that begins at its entry's node
pub record BeginsAtEntry (plant : PlantData) (context : ℕ) (block : Block) : Type 0 where
  pub owner : block.begin.owner ≡ context
  pub after : block.begin.after ≡ None
  pub first : IsEntryNode (entries_of plant.image plant.system) plant.flow context block.begin.first

-- the entry's block of each context begins at the entry's node
unfoldable pub EntriesBegin : PlantData → Type 0
EntriesBegin plant =
    (context : ℕ) → context < length (entries_of plant.image plant.system)
    → IsSomeAnd (slice_get plant.blocks.entries context) (λ number. IsSomeAnd (slice_get plant.blocks.blocks number) (BeginsAtEntry plant context))

-- the block begins behind the service at the node
pub record BeginsBehind (plant : PlantData) (node : ℕ) (block : Block) : Type 0 where
  pub after : block.begin.after ≡ Some node
  pub first : successor plant.flow node ≡ Some block.begin.first
  pub owner : is_of plant.flow block.begin.owner node ≡ true

-- the block behind each service begins where the service goes on
unfoldable pub AftersBegin : PlantData → Type 0
AftersBegin plant =
    (node number : ℕ) → slice_get plant.blocks.afters node ≡ Some (Some number)
    → IsSomeAnd (slice_get plant.blocks.blocks number) (BeginsBehind plant node)

-- a service that goes on has a block behind it
unfoldable pub ServicesHaveBlocks : PlantData → Type 0
ServicesHaveBlocks plant =
    (node next : ℕ) → successor plant.flow node ≡ Some next → IsSomeAnd (slice_get plant.blocks.afters node) (λ after. after ≢ None)

-- no block behind a service is an entry's block
unfoldable pub AftersAreNoEntries : PlantData → Type 0
AftersAreNoEntries plant =
    (node context number : ℕ) → slice_get plant.blocks.afters node ≡ Some (Some number) → slice_get plant.blocks.entries context ≡ Some number → ⊥
