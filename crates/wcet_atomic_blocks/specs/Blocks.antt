-- Blocks: what a context runs from its entry, or from behind a service, up to its next service. Nodes
-- and blocks are told by their numbers.
use Rattle.std.specs.Prelude.{◌≡◌, ℕ, suc, ◌*◌, ◌<◌, Bool, true, false, ◌==◌, is_some, List, [], ◌∷◌, ◌++◌, length, map, All, filter, filter_map, slice_get, Option, Some, None, option_map, option_and_then, IsSomeAnd, if◌then◌else◌}
use Rattle.std.specs.List.{range_with_len}
use Rattle.std.specs.Option.{option_map_or}
use Rattle.flow_graph.specs.declared.edge.Edge.{Edge}
use Rattle.flow_graph.specs.declared.flow.Flow.{Flow}
use Rattle.flow_graph.specs.declared.flow.Leaving.{Leaving}
use Rattle.wcet_atomic_blocks.specs.declared.block.Beginning.{Beginning}
use Rattle.wcet_atomic_blocks.specs.declared.block.Block.{Block}
use Rattle.wcet_atomic_blocks.specs.declared.block.Blocks.{Blocks}
use Rattle.wcet_atomic_blocks.specs.NodeSets.{holds}

-- ---- What a flow tells of its nodes

-- the node is of the context
abbrev pub is_of : Flow → ℕ → ℕ → Bool
is_of flow context node = option_map_or (λ n. n.context == context) (slice_get flow.nodes node) false

-- the node is an ECALL
abbrev pub is_service : Flow → ℕ → Bool
is_service flow node = option_map_or (λ l. is_some l.service) (slice_get flow.leaving node) false

abbrev pub edges_at : Flow → ℕ → List (Edge ℕ)
edges_at flow node = option_map_or (λ l. l.edges) (slice_get flow.leaving node) []

-- an edge of the node leads to the next one
pub record HasEdge (flow : Flow) (node next : ℕ) : Type 0 where
  pub number : ℕ
  pub edge : Edge ℕ
  pub leaves : slice_get (edges_at flow node) number ≡ Some edge
  pub arrives : edge.to ≡ Some next

-- where the one edge of a service leads
abbrev pub onward : Leaving → Option ℕ
onward leaving = if is_some leaving.service then option_and_then (λ edge. edge.to) (slice_get leaving.edges 0) else None

-- The node behind a service that goes on; none where the node is no such service.
abbrev pub successor : Flow → ℕ → Option ℕ
successor flow node = option_and_then onward (slice_get flow.leaving node)

abbrev pub services_of : Flow → List ℕ
services_of flow = filter (is_service flow) (range_with_len 0 (length flow.nodes))

-- ---- Members

-- The nodes that are reached from the first one along edges of nodes that are no ECALLs. An ECALL that
-- is reached is a member too.
pub data IsInBlock (flow : Flow) (first : ℕ) : ℕ → Type 0 where
  begins : (node : ℕ) → node ≡ first → IsInBlock flow first node
  along : (node next : ℕ) → IsInBlock flow first node → is_service flow node ≡ false → HasEdge flow node next
      → IsInBlock flow first next

-- ---- Beginnings, in the order of blocks

abbrev pub at_entry : ℕ → ℕ → Beginning
at_entry context entry = record { owner = context; after = None; first = entry }

abbrev pub behind : ℕ → ℕ → ℕ → Beginning
behind context node next = record { owner = context; after = Some node; first = next }

-- behind a service of the context that goes on
abbrev pub beginning_behind : Flow → ℕ → ℕ → Option Beginning
beginning_behind flow context node =
    if is_of flow context node then option_map (behind context node) (successor flow node) else None

-- The context's blocks begin at its entry, and behind each of its services that goes on, in node order.
abbrev pub beginnings_of : Flow → ℕ → ℕ → List Beginning
beginnings_of flow context entry =
    at_entry context entry ∷ filter_map (beginning_behind flow context) (range_with_len 0 (length flow.nodes))

abbrev pub beginnings_from : Flow → ℕ → List ℕ → List Beginning
beginnings_from flow context [] = []
beginnings_from flow context (entry ∷ entries) = beginnings_of flow context entry ++ beginnings_from flow (suc context) entries

-- The beginnings of all blocks, where the contexts have these entries.
abbrev pub beginnings : Flow → List ℕ → List Beginning
beginnings flow entries = beginnings_from flow 0 entries

-- ---- Blocks

pub record IsBlock (flow : Flow) (block : Block) : Type 0 where
  pub room : length flow.nodes < 64 * length block.nodes
  pub sound : (node : ℕ) → holds block.nodes node ≡ true → IsInBlock flow block.begin.first node
  pub complete : (node : ℕ) → IsInBlock flow block.begin.first node → holds block.nodes node ≡ true
  pub exits : block.exits ≡ filter (holds block.nodes) (services_of flow)

-- the block of the context's entry
pub record IsEntryBlock (context : ℕ) (block : Block) : Type 0 where
  pub owner : block.begin.owner ≡ context
  pub after : block.begin.after ≡ None

-- the number of the block behind a node, or none where the node is no service that goes on
abbrev pub IsAfter : Flow → List Block → ℕ → Option ℕ → Type 0
IsAfter flow blocks node None = successor flow node ≡ None
IsAfter flow blocks node (Some number) = IsSomeAnd (slice_get blocks number) (λ block. block.begin.after ≡ Some node)

-- The blocks of a flow whose contexts have these entries.
pub record IsCut (flow : Flow) (entries : List ℕ) (blocks : Blocks) : Type 0 where
  pub begin : map (λ block. block.begin) blocks.blocks ≡ beginnings flow entries
  pub each : All (IsBlock flow) blocks.blocks
  pub entry_count : length blocks.entries ≡ length entries
  pub entry : (context : ℕ) → context < length entries
      → IsSomeAnd (slice_get blocks.entries context) (λ number. IsSomeAnd (slice_get blocks.blocks number) (IsEntryBlock context))
  pub after_count : length blocks.afters ≡ length flow.nodes
  pub after : (node : ℕ) → node < length flow.nodes → IsSomeAnd (slice_get blocks.afters node) (IsAfter flow blocks.blocks node)

-- ---- Flows that can be cut

-- Each node has its edges, they stay among the nodes, and the contexts of the nodes have entries there.
-- Every code graph is such a flow.
pub record IsWhole (flow : Flow) (entries : List ℕ) : Type 0 where
  pub leaving : length flow.leaving ≡ length flow.nodes
  pub edges : (node next : ℕ) → HasEdge flow node next → next < length flow.nodes
  pub contexts : All (λ node. node.context < length entries) flow.nodes
  pub entry_nodes : All (λ entry. entry < length flow.nodes) entries
