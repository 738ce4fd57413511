-- Loop instances: what a declared loop is for one context with one string of open calls. A string is told
-- by one of its nodes, its head.
use Rattle.std.specs.Prelude.{ℕ, ◌-◌, Bool, true, false, not, ◌&&◌, ◌||◌, ◌==◌, nat_eq, nat_lt, List, [], length, map, filter, filter_map, slice_get, Option, Some, None, option_and_then, if◌then◌else◌}
use Rattle.std.specs.Cmp.Lexicographic.{pointwise}
use Rattle.std.specs.List.{range_with_len, flat_map, list_any, starts_with}
use Rattle.std.specs.Option.{option_map_or}
use Rattle.timing_file.specs.declared.timing.Loop.{Loop}
use Rattle.timing_file.specs.Costs.{lies_in}
use Rattle.flow_graph.specs.declared.edge.Edge.{Edge}
use Rattle.flow_graph.specs.declared.edge.EdgeKind.{EdgeKind}
use Rattle.flow_graph.specs.declared.edge.EdgeKind.TheVariants as kinds
use Rattle.flow_graph.specs.declared.flow.Flow.{Flow}
use Rattle.flow_graph.specs.declared.node.Node.{Node}
use Rattle.flow_graph.specs.Faults.{is_local}
use Rattle.wcet_atomic_blocks.specs.declared.block.Beginning.{Beginning}
use Rattle.wcet_atomic_blocks.specs.declared.block.Block.{Block}
use Rattle.wcet_atomic_blocks.specs.declared.loops.EdgeId.{EdgeId}
use Rattle.wcet_atomic_blocks.specs.declared.loops.LoopInstance.{LoopInstance}
use Rattle.wcet_atomic_blocks.specs.Blocks.{edges_at}

-- ---- Nodes and a loop of a string, which is that of the head

abbrev pub in_range : Loop → ℕ → Bool
in_range l address = lies_in l.from l.to address

abbrev pub same_string : Node → Node → Bool
same_string head node = head.context == node.context && pointwise nat_eq head.sites node.sites

-- the node has the string and is in the range
abbrev pub is_inside : Node → Loop → Node → Bool
is_inside head l node = same_string head node && in_range l node.address

-- the node's string is that of the head, then a site in the range, then any sites
abbrev pub is_called_inside : Node → Loop → Node → Bool
is_called_inside head l node =
    head.context == node.context
    && option_map_or (in_range l) (slice_get node.sites (length head.sites)) false
    && starts_with nat_eq node.sites head.sites

abbrev pub lies_within : Node → Loop → Node → Bool
lies_within head l node = is_inside head l node || is_called_inside head l node

-- ---- Edges, by their source, kind and target

-- A back edge goes from a node in the range to the string's node at the loop's first address, within an
-- invocation.
abbrev pub is_back : Node → Loop → Node → EdgeKind → Node → Bool
is_back head l source kind target =
    is_local kind && is_inside head l source && same_string head target && (target.address == l.from)

-- the innermost open call of the node is in the range
abbrev pub returns_into : Loop → Node → Bool
returns_into l source = option_map_or (in_range l) (slice_get source.sites (length source.sites - 1)) false

-- The edge comes from outside of the loop: a call; a return whose site isn't in the range; any other
-- edge from a node of the string that isn't in the range.
abbrev pub comes_from_outside : Node → Loop → Node → EdgeKind → Bool
comes_from_outside head l source kinds.Call = true
comes_from_outside head l source kinds.Return = not (returns_into l source)
comes_from_outside head l source kind = same_string head source && not (in_range l source.address)

abbrev pub is_entering : Node → Loop → Node → EdgeKind → Node → Bool
is_entering head l source kind target = is_inside head l target && comes_from_outside head l source kind

-- ---- Nodes, edges and blocks by their numbers

abbrev pub node_passes : Flow → (Node → Bool) → ℕ → Bool
node_passes flow test number = option_map_or test (slice_get flow.nodes number) false

abbrev pub edge_passes : Flow → (Node → EdgeKind → Node → Bool) → Node → Edge ℕ → Bool
edge_passes flow test source edge = option_map_or (node_passes flow (test source edge.kind)) edge.to false

abbrev pub id_passes : Flow → (Node → EdgeKind → Node → Bool) → EdgeId → Bool
id_passes flow test id =
    option_map_or
    (λ source. option_map_or (edge_passes flow test source) (slice_get (edges_at flow id.node) id.i) false)
    (slice_get flow.nodes id.node) false

abbrev pub edge_id : ℕ → ℕ → EdgeId
edge_id node i = record { node = node; i = i }

abbrev pub edges_from : Flow → ℕ → List EdgeId
edges_from flow node = map (edge_id node) (range_with_len 0 (length (edges_at flow node)))

-- A block enters where its first node is inside, and it is an entry's block or that behind a service
-- that isn't in the range.
abbrev pub begins_outside : Flow → Loop → Option ℕ → Bool
begins_outside flow l None = true
begins_outside flow l (Some service) = node_passes flow (λ node. not (in_range l node.address)) service

abbrev pub enters : Flow → Node → Loop → Beginning → Bool
enters flow head l begin = node_passes flow (is_inside head l) begin.first && begins_outside flow l begin.after

abbrev pub block_enters : Flow → List Block → Node → Loop → ℕ → Bool
block_enters flow blocks head l number = option_map_or (λ block. enters flow head l block.begin) (slice_get blocks number) false

-- ---- Instances

-- all edges of the flow that pass, and all nodes, in order
abbrev pub passing_edges : Flow → (Node → EdgeKind → Node → Bool) → List EdgeId
passing_edges flow test = filter (id_passes flow test) (flat_map (edges_from flow) (range_with_len 0 (length flow.nodes)))

abbrev pub passing_nodes : Flow → (Node → Bool) → List ℕ
passing_nodes flow test = filter (node_passes flow test) (range_with_len 0 (length flow.nodes))

abbrev pub instance_of : Flow → List Block → Node → ℕ → Loop → LoopInstance
instance_of flow blocks head declared l = record {
  context = head.context;
  declared = declared;
  backs = passing_edges flow (is_back head l);
  entering = passing_edges flow (is_entering head l);
  blocks = filter (block_enters flow blocks head l) (range_with_len 0 (length blocks));
  within = passing_nodes flow (lies_within head l);
}

-- the instance of a declared loop, if it has a back edge
abbrev pub instance_at : Flow → List Block → Node → ℕ → Loop → Option LoopInstance
instance_at flow blocks head declared l =
    if nat_lt 0 (length (passing_edges flow (is_back head l))) then Some (instance_of flow blocks head declared l) else None

abbrev pub instances_at : Flow → List Block → List Loop → Node → List LoopInstance
instances_at flow blocks loops head =
    filter_map
    (λ declared. option_and_then (instance_at flow blocks head declared) (slice_get loops declared))
    (range_with_len 0 (length loops))

-- the first node in order that has its context and string
abbrev pub is_first : Flow → ℕ → Node → Bool
is_first flow number node = not (list_any (node_passes flow (same_string node)) (range_with_len 0 number))

abbrev pub instances_from : Flow → List Block → List Loop → ℕ → List LoopInstance
instances_from flow blocks loops number =
    option_map_or
    (λ node. if is_first flow number node then instances_at flow blocks loops node else [])
    (slice_get flow.nodes number) []

-- The loop instances that have a back edge, by context, string and declared loop: those of each first
-- node of a string, in the order of nodes.
abbrev pub loop_instances : Flow → List Block → List Loop → List LoopInstance
loop_instances flow blocks loops = flat_map (instances_from flow blocks loops) (range_with_len 0 (length flow.nodes))
