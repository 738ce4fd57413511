-- Tables that name blocks by contexts and by nodes.
use Rattle.std.specs.Prelude.{◌≡◌, ℕ, ◌+◌, ◌<◌, true, List, length, slice_get, Option, Some, None, IsSomeAnd}
use Rattle.flow_graph.specs.declared.flow.Flow.{Flow}
use Rattle.wcet_atomic_blocks.specs.Blocks.{is_of, successor, at_entry, behind}
use Rattle.wcet_atomic_blocks.specs.declared.block.Beginning.{Beginning}

-- the beginning of that number is that of the entry of the context
pub record IsEntryAt (begins : List Beginning) (context number : ℕ) : Type 0 where
  pub begin : Beginning
  pub stands : slice_get begins number ≡ Some begin
  pub owner : begin.owner ≡ context
  pub after : begin.after ≡ None

-- the beginning of that number is behind the node
pub record IsBehindAt (begins : List Beginning) (node number : ℕ) : Type 0 where
  pub begin : Beginning
  pub stands : slice_get begins number ≡ Some begin
  pub after : begin.after ≡ Some node

-- each context whose entry is among the first so many beginnings has the number of one in the table
pub record AreEntriesBelow (begins : List Beginning) (count contexts : ℕ) (table : List ℕ) : Type 0 where
  pub long : length table ≡ contexts
  pub each : (number context : ℕ) → number < count → IsEntryAt begins context number
      → IsSomeAnd (slice_get table context) (IsEntryAt begins context)

-- the number of a beginning behind the node, or none where none of the first so many is behind it
abbrev pub IsFound : List Beginning → ℕ → ℕ → Option ℕ → Type 0
IsFound begins count node None = (number : ℕ) → number < count → IsBehindAt begins node number → ⊥
IsFound begins count node (Some number) = IsBehindAt begins node number

pub record AreAftersBelow (begins : List Beginning) (count nodes : ℕ) (table : List (Option ℕ)) : Type 0 where
  pub long : length table ≡ nodes
  pub each : (node : ℕ) → node < nodes → IsSomeAnd (slice_get table node) (IsFound begins count node)

-- Where a block of the contexts from one on begins, which have these entries.
pub data IsBeginning (flow : Flow) (context : ℕ) (entries : List ℕ) (b : Beginning) : Type 0 where
  entry : (place node : ℕ) → slice_get entries place ≡ Some node → b ≡ at_entry (context + place) node → IsBeginning flow context entries b
  service : (place node next : ℕ) → place < length entries → node < length flow.nodes → is_of flow (context + place) node ≡ true
      → successor flow node ≡ Some next → b ≡ behind (context + place) node next → IsBeginning flow context entries b
