-- The search for the nodes of a block: a set of nodes, and a list of those of them that are pending.
use Rattle.std.specs.Prelude.{◌≡◌, ◌≢◌, ℕ, ◌+◌, ◌<◌, true, false, List, [], ◌∷◌, ◌++◌, Contains, ◌⊎◌, slice_get, Some, if◌then◌else◌, zero, suc}
use Rattle.flow_graph.specs.declared.edge.Edge.{Edge}
use Rattle.flow_graph.specs.declared.flow.Flow.{Flow}
use Rattle.wcet_atomic_blocks.specs.NodeSets.{holds}
use Rattle.wcet_atomic_blocks.specs.Blocks.{HasEdge, IsInBlock, is_service}

-- the set with the node in it
pub record IsInserted (set : List ℕ) (node : ℕ) (set' : List ℕ) : Type 0 where
  pub there : holds set' node ≡ true
  pub others : (other : ℕ) → other ≢ node → holds set' other ≡ holds set other

-- what leads on from the node is in the set
pub record IsFollowed (flow : Flow) (set : List ℕ) (node : ℕ) : Type 0 where
  pub each : is_service flow node ≡ false → (next : ℕ) → HasEdge flow node next → holds set next ≡ true

-- The set has nodes of the block, and each of them is pending or followed.
pub record IsSearch (flow : Flow) (first : ℕ) (set pending : List ℕ) : Type 0 where
  pub begun : holds set first ≡ true
  pub sound : (node : ℕ) → holds set node ≡ true → IsInBlock flow first node
  pub found : (node : ℕ) → Contains pending node → holds set node ≡ true
  pub followed : (node : ℕ) → holds set node ≡ true → Contains pending node ⊎ IsFollowed flow set node

-- the numbers below n that are not in the set
abbrev pub unseen : List ℕ → ℕ → ℕ
unseen set zero = 0
unseen set (suc n) = (if holds set n then 0 else 1) + unseen set n

-- A node is put into the set, and is pending from then on, if it wasn't in the set before.
pub data Visits (node : ℕ) (set pending set' pending' : List ℕ) : Type 0 where
  again : holds set node ≡ true → set' ≡ set → pending' ≡ pending → Visits node set pending set' pending'
  anew : holds set node ≡ false → IsInserted set node set' → pending' ≡ pending ++ node ∷ [] → Visits node set pending set' pending'

-- edge number k leads to the node
abbrev pub LeadsAt : List (Edge ℕ) → ℕ → ℕ → Type 0
LeadsAt edges k next = (edge : Edge ℕ) × (slice_get edges k ≡ Some edge) × (edge.to ≡ Some next)

-- What following the first so many edges of a node changes.
pub record IsVisiting (edges : List (Edge ℕ)) (count : ℕ) (set pending set' pending' : List ℕ) : Type 0 where
  pub search : (flow : Flow) (first node : ℕ) → is_service flow node ≡ false
      → ((k next : ℕ) → LeadsAt edges k next → HasEdge flow node next)
      → IsSearch flow first set (node ∷ pending) → IsSearch flow first set' (node ∷ pending')
  pub held : (k next : ℕ) → k < count → LeadsAt edges k next → holds set' next ≡ true
