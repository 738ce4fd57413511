-- Worked cases of blocks.
use Rattle.std.specs.Prelude.{◌≡◌, ℕ, List, [], ◌∷◌, Option, Some, None, refl}
use Rattle.flow_graph.specs.declared.edge.EdgeKind.{EdgeKind}
use Rattle.flow_graph.specs.declared.edge.EdgeKind.TheVariants as kinds
use Rattle.flow_graph.specs.declared.flow.Flow.{Flow}
use Rattle.flow_graph.specs.declared.flow.Leaving.{Leaving}
use Rattle.flow_graph.specs.declared.node.Node.{Node}
use Rattle.timing_file.specs.declared.timing.Loop.{Loop}
use Rattle.wcet_atomic_blocks.specs.declared.block.Block.{Block}
use Rattle.wcet_atomic_blocks.specs.Loops.{edge_id, loop_instances}
use Rattle.wcet_atomic_blocks.specs.Blocks.{at_entry, behind, successor, services_of, beginnings}

-- ---- A flow of two contexts

abbrev node_of : ℕ → List ℕ → ℕ → Node
node_of context sites address = record { context = context; sites = sites; address = address }

abbrev plain_to : EdgeKind → ℕ → Leaving
plain_to kind next = record { service = None; edges = record { to = Some next; kind = kind } ∷ [] }

abbrev serving : ℕ → ℕ → Option ℕ → Leaving
serving number argument next = record {
  service = Some (record { number = number; argument = argument });
  edges = record { to = next; kind = kinds.Service } ∷ [];
}

-- context 0 calls a function at 0x200, which asks for service 12 and returns, and ends by service 2;
-- context 1 ends by service 15
abbrev pub worked : Flow
worked = record {
  nodes = node_of 0 [] 0x100 ∷ node_of 0 [] 0x104 ∷ node_of 0 (0x100 ∷ []) 0x200 ∷ node_of 0 (0x100 ∷ []) 0x204 ∷ node_of 1 [] 0x300 ∷ [];
  leaving = plain_to kinds.Call 2 ∷ serving 2 0 None ∷ serving 12 0 (Some 3) ∷ plain_to kinds.Return 1 ∷ serving 15 0 None ∷ [];
}

services_case : services_of worked ≡ 1 ∷ 2 ∷ 4 ∷ []
services_case = refl

goes_on_case : successor worked 2 ≡ Some 3
goes_on_case = refl

ends_case : successor worked 1 ≡ None
ends_case = refl

-- the entry of context 0, what is behind its service at node 2, and the entry of context 1
beginnings_case : beginnings worked (0 ∷ 4 ∷ []) ≡ at_entry 0 0 ∷ behind 0 2 3 ∷ at_entry 1 4 ∷ []
beginnings_case = refl

-- ---- A loop: 0x200 calls 0x300, whose function returns to 0x204, which goes back to 0x200 or on

abbrev branch_to : ℕ → ℕ → Leaving
branch_to straight taken = record {
  service = None;
  edges = record { to = Some straight; kind = kinds.Straight } ∷ record { to = Some taken; kind = kinds.Taken } ∷ [];
}

abbrev looped : Flow
looped = record {
  nodes = node_of 0 [] 0x1fc ∷ node_of 0 [] 0x200 ∷ node_of 0 [] 0x204 ∷ node_of 0 [] 0x208 ∷ node_of 0 (0x200 ∷ []) 0x300 ∷ [];
  leaving = plain_to kinds.Straight 1 ∷ plain_to kinds.Call 4 ∷ branch_to 3 1 ∷ serving 2 0 None ∷ plain_to kinds.Return 2 ∷ [];
}

abbrev entry_block : Block
entry_block = record { begin = at_entry 0 0; nodes = 0x1f ∷ []; exits = 3 ∷ [] }

abbrev around : Loop
around = record { from = 0x200; to = 0x204; bound = 9 }

-- the branch's second edge goes back, the edge from 0x1fc enters, and the return's site is in the range
loop_case
    : loop_instances looped (entry_block ∷ []) (around ∷ [])
    ≡ record { context = 0; declared = 0; backs = edge_id 2 1 ∷ []; entering = edge_id 0 0 ∷ []; blocks = []; within = 1 ∷ 2 ∷ 4 ∷ [] } ∷ []
loop_case = refl

-- ---- A loop in a function that is called twice: 0x200 branches to itself, and 0x204 returns

abbrev called_twice : Flow
called_twice = record {
  nodes = node_of 0 [] 0x100 ∷ node_of 0 [] 0x104 ∷ node_of 0 [] 0x108
      ∷ node_of 0 (0x100 ∷ []) 0x200 ∷ node_of 0 (0x100 ∷ []) 0x204
      ∷ node_of 0 (0x104 ∷ []) 0x200 ∷ node_of 0 (0x104 ∷ []) 0x204 ∷ [];
  leaving = plain_to kinds.Call 3 ∷ plain_to kinds.Call 5 ∷ serving 2 0 None
      ∷ branch_to 4 3 ∷ plain_to kinds.Return 1
      ∷ branch_to 6 5 ∷ plain_to kinds.Return 2 ∷ [];
}

abbrev whole_block : Block
whole_block = record { begin = at_entry 0 0; nodes = 0x7f ∷ []; exits = 2 ∷ [] }

abbrev itself : Loop
itself = record { from = 0x200; to = 0x200; bound = 5 }

-- one instance for each string, which its own call enters
strings_case
    : loop_instances called_twice (whole_block ∷ []) (around ∷ itself ∷ [])
    ≡ record { context = 0; declared = 0; backs = edge_id 3 1 ∷ []; entering = edge_id 0 0 ∷ []; blocks = []; within = 3 ∷ 4 ∷ [] }
    ∷ record { context = 0; declared = 1; backs = edge_id 3 1 ∷ []; entering = edge_id 0 0 ∷ []; blocks = []; within = 3 ∷ [] }
    ∷ record { context = 0; declared = 0; backs = edge_id 5 1 ∷ []; entering = edge_id 1 0 ∷ []; blocks = []; within = 5 ∷ 6 ∷ [] }
    ∷ record { context = 0; declared = 1; backs = edge_id 5 1 ∷ []; entering = edge_id 1 0 ∷ []; blocks = []; within = 5 ∷ [] } ∷ []
strings_case = refl
