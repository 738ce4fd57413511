-- The number of the node at which a context stands.
use Rattle.std.proofs.Common.{◌≡◌, ℕ, ◌<◌, List, Contains, Some, Less, Equal, arith, refl, sym, ◌∙◌, ap, subst, position, inl, inr, get_or}
use Rattle.std.specs.Prelude.{slice_get, ◌⊎◌}
use Rattle.std.specs.Bool.{Decides}
use Rattle.std.specs.List.Sorted.{IsStrictlySortedBy}
use Rattle.std.proofs.lemmas.Bool.Decides.{Decides-and, Decides-eqb, Decides-like}
use Rattle.std.proofs.lemmas.Cmp.{tied_itself}
use Rattle.std.proofs.lemmas.Map.Keys.{Less-from_sorted}
use Rattle.std.proofs.lemmas.Option.{slice_get_within, get_or_from_slice_get}
use Rattle.std.proofs.lemmas.Slice.Eq.{bytes_eq-Decides}
use Rattle.rv32_machine.specs.ContextStep.{Standing}
use Rattle.flow_graph.specs.declared.node.Node.{Node}
use Rattle.flow_graph.specs.Graph.{Program, node_cmp}
use Rattle.flow_graph.specs.Judging.{AreAllNodes}
use Rattle.flow_graph.specs.Walks.{IsOnGraph}
use Rattle.flow_graph.proofs.Nodes.{node_total}
use Rattle.shadow_runs.specs.Shadow.{is_node_of}
use Rattle.shadow_runs.proofs.Members.{StandsFirst, stands_first}

-- ---- One number

apart : (nodes : List Node) (i j : ℕ) (node : Node) → IsStrictlySortedBy node_cmp nodes → i < j → slice_get nodes i ≡ Some node
    → slice_get nodes j ≡ Some node → ⊥
apart nodes i j node order below here there =
    let less : node_cmp (get_or nodes i node) (get_or nodes j node) ≡ Less = Less-from_sorted node_cmp nodes i j node order below
    (slice_get_within nodes j node there) in
    let first : node_cmp node (get_or nodes j node) ≡ Less = subst (λ n. node_cmp n (get_or nodes j node) ≡ Less)
    (get_or_from_slice_get nodes i node node here) less in
    let both : node_cmp node node ≡ Less = subst (λ n. node_cmp node n ≡ Less) (get_or_from_slice_get nodes j node node there) first in
    let wrong : Less ≡ Equal = sym both ∙ tied_itself node_total node in cc

-- a node stands at one place
pub one_number : (nodes : List Node) (i j : ℕ) (node : Node) → IsStrictlySortedBy node_cmp nodes → slice_get nodes i ≡ Some node
    → slice_get nodes j ≡ Some node → i ≡ j
one_number nodes i j node order here there = by (side i j)
  where
    side : (m n : ℕ) → (m ≡ n) ⊎ ((m < n) ⊎ (n < m))
    side m n = grind arith

    by : (i ≡ j) ⊎ ((i < j) ⊎ (j < i)) → i ≡ j
    by (inl same) = same
    by (inr (inl below)) = absurd (apart nodes i j node order below here there)
    by (inr (inr above)) = absurd (apart nodes j i node order above there here)

-- ---- The node of a standing

same_nodes : (a b : Node) → a.context ≡ b.context → a.sites ≡ b.sites → a.address ≡ b.address → a ≡ b
same_nodes a b contexts sites addresses = build a.context b.context a.sites b.sites a.address b.address contexts sites addresses
  where
    build : (c d : ℕ) (ss ts : List ℕ) (x y : ℕ) → c ≡ d → ss ≡ ts → x ≡ y
        → ◌≡◌ {A = Node} (record { context = c; sites = ss; address = x }) (record { context = d; sites = ts; address = y })
    build c d ss ts x y e f g = rw (e, f, g) refl

-- the test of a standing tells its node
tells : (context : ℕ) (standing : Standing) (node : Node) → node.context ≡ context → standing.calls ≡ node.sites → standing.place ≡ node.address
    → (other : Node) → Decides (is_node_of context standing other) (other ≡ node)
tells context standing node here calls place other =
    Decides-like _ (λ p. same_nodes other node (p.0.0 ∙ sym here) (p.0.1 ∙ calls) (p.1 ∙ place))
    (λ e. ((ap (λ n. n.context) e ∙ here, ap (λ n. n.sites) e ∙ sym calls), ap (λ n. n.address) e ∙ sym place))
    (Decides-and _ _ (Decides-and _ _ (Decides-eqb other.context context) (bytes_eq-Decides other.sites standing.calls))
    (Decides-eqb other.address standing.place))

-- a node that is listed is found by the standing of a context at it
pub found_node : (nodes : List Node) (context : ℕ) (standing : Standing) (node : Node) → node.context ≡ context → standing.calls ≡ node.sites
    → standing.place ≡ node.address
    → Contains nodes node → StandsFirst (is_node_of context standing) nodes node
found_node nodes context standing node here calls place listed = stands_first (is_node_of context standing) nodes node
    (tells context standing node here calls place) listed

-- so it is by its number
pub found_at : (nodes : List Node) (context : ℕ) (standing : Standing) (number : ℕ) (node : Node) → IsStrictlySortedBy node_cmp nodes
    → slice_get nodes number ≡ Some node
    → node.context ≡ context → standing.calls ≡ node.sites → standing.place ≡ node.address → position (is_node_of context standing) nodes ≡ Some number
found_at nodes context standing number node order at here calls place =
    let found = found_node nodes context standing node here calls place
    (number, slice_get_within nodes number node at, get_or_from_slice_get nodes number node node at) in
    found.found ∙ ap Some (one_number nodes found.number number node order found.stands at)

-- a context on the graph stands at a node of it
pub found_on : (program : Program) (nodes : List Node) (context : ℕ) (standing : Standing) → AreAllNodes program nodes
    → (on : IsOnGraph program context standing)
    → StandsFirst (is_node_of context standing) nodes on.node
found_on program nodes context standing are on =
    found_node nodes context standing on.node on.context_is on.stands.calls_are on.stands.place_is (are.all on.node on.reached)
