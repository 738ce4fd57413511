-- Among nodes in order those of one string stand together.
use Rattle.std.proofs.Common.{◌≡◌, ℕ, ◌+◌, ◌<◌, ◌≤◌, Bool, true, false, List, [], length, get_or, Some, None, Option, Ordering, Less, Equal, Greater, inl, inr, refl, sym, ap, ◌∙◌, arith}
use Rattle.std.specs.Prelude.{not, ◌&&◌, ◌||◌, ◌==◌, filter, slice_get, ◌⊎◌}
use Rattle.std.specs.Cmp.{IsTotalOrder, IsEquivalence, both_tied, unsigned_ties}
use Rattle.std.specs.Cmp.Lexicographic.{slice_cmp, texts_ties}
use Rattle.std.specs.List.{range_with_len, flat_map, list_any}
use Rattle.std.specs.List.Sorted.{IsStrictlySortedBy}
use Rattle.std.specs.Option.{option_map_or}
use Rattle.std.specs.Ordering.{is_eq, is_gt, ordering_then, ordering_reverse, nat_cmp, on, then_cmp}
use Rattle.std.proofs.lemmas.Cmp.{nat_cmp_total, nat_list_cmp_total, nat_eq_equiv, nat_list_eq_equiv, on_total, then_total, on_equiv, and_equiv, tied_back, upto}
use Rattle.std.proofs.lemmas.Map.Keys.{Less-from_sorted}
use Rattle.std.proofs.lemmas.Option.{get_or_from_slice_get, slice_get-get_or, slice_get_within}
use Rattle.timing_file.specs.declared.timing.Loop.{Loop}
use Rattle.flow_graph.specs.declared.edge.Edge.{Edge}
use Rattle.flow_graph.specs.declared.edge.EdgeKind.{EdgeKind}
use Rattle.flow_graph.specs.declared.flow.Flow.{Flow}
use Rattle.flow_graph.specs.declared.node.Node.{Node}
use Rattle.flow_graph.specs.Faults.{is_local}
use Rattle.flow_graph.specs.Graph.{node_cmp}
use Rattle.wcet_atomic_blocks.specs.Blocks.{edges_at}
use Rattle.wcet_atomic_blocks.specs.Loops.{in_range, same_string, is_back, node_passes, edge_passes, id_passes, edge_id, edges_from, passing_edges, is_first}
use Rattle.wcet_atomic_blocks.proofs.LoopLists.{NonePasses, any_counts, none_below, none_from_each, none_of_map, skips}

-- ---- The order of contexts and strings

abbrev string_cmp : Node → Node → Ordering
string_cmp = then_cmp (on (λ (n : Node). n.context) nat_cmp) (on (λ (n : Node). n.sites) (slice_cmp nat_cmp))

string_total : IsTotalOrder string_cmp
string_total = then_total (on_total (λ (n : Node). n.context) nat_cmp_total) (on_total (λ (n : Node). n.sites) nat_list_cmp_total)

string_equiv : IsEquivalence same_string
string_equiv = and_equiv (on_equiv (λ (n : Node). n.context) nat_eq_equiv) (on_equiv (λ (n : Node). n.sites) nat_list_eq_equiv)

tied : (a b : Node) → same_string a b ≡ is_eq (string_cmp a b)
tied a b = both_tied _ _ _ _ (unsigned_ties a.context b.context) (texts_ties a.sites b.sites)

not_above : (x y z : Ordering) → ordering_then x (ordering_then y z) ≡ Less → is_gt (ordering_then x y) ≡ false
not_above Less y z is = refl
not_above Equal Less z is = refl
not_above Equal Equal z is = refl
not_above Equal Greater z is = absurd cc
not_above Greater y z is = absurd cc

level : (x y : Ordering) → x ≡ ordering_reverse y → is_gt x ≡ false → is_gt y ≡ false → is_eq x ≡ true
level Less Less is first second = absurd cc
level Less Equal is first second = absurd cc
level Less Greater is first second = absurd cc
level Equal y is first second = refl
level Greater y is first second = absurd cc

equal_from : (x : Ordering) → is_eq x ≡ true → x ≡ Equal
equal_from Less is = absurd cc
equal_from Equal is = refl
equal_from Greater is = absurd cc

in_string_order : (a b : Node) → node_cmp a b ≡ Less → is_gt (string_cmp a b) ≡ false
in_string_order a b = not_above (nat_cmp a.context b.context) (slice_cmp nat_cmp a.sites b.sites) (nat_cmp a.address b.address)

-- a node between two of one string has that string
between : (a b c : Node) → node_cmp a b ≡ Less → node_cmp b c ≡ Less → same_string a c ≡ true → same_string a b ≡ true
between a b c first second same =
    let back : string_cmp c a ≡ Equal = tied_back string_total a c (equal_from (string_cmp a c) (sym (tied a c) ∙ same)) in
    let down : is_gt (string_cmp b a) ≡ false = upto string_total b c a (in_string_order b c second) (ap is_gt back) in
    tied a b ∙ level (string_cmp a b) (string_cmp b a) (string_total.antisymm a b) (in_string_order a b first) down

-- ---- Nodes by their numbers

-- the node of that number has the head's string
record HasString (flow : Flow) (head : Node) (number : ℕ) : Type 0 where
  node : Node
  stands : slice_get flow.nodes number ≡ Some node
  same : same_string head node ≡ true

has_string : (flow : Flow) (head : Node) (number : ℕ) → node_passes flow (same_string head) number ≡ true → HasString flow head number
has_string flow head number is = go (slice_get flow.nodes number) refl
  where
    go : (o : Option Node) → slice_get flow.nodes number ≡ o → HasString flow head number
    go None e = absurd (let wrong = ap (λ p. option_map_or (same_string head) p false) (sym e) ∙ is in cc)
    go (Some node) e = record { node = node; stands = e; same = ap (λ p. option_map_or (same_string head) p false) (sym e) ∙ is }

passes_there : (flow : Flow) (head : Node) (number : ℕ) (node : Node) → slice_get flow.nodes number ≡ Some node → same_string head node ≡ true
    → node_passes flow (same_string head) number ≡ true
passes_there flow head number node stands same = ap (λ p. option_map_or (same_string head) p false) stands ∙ same

pub head_passes : (flow : Flow) (number : ℕ) (head : Node) → slice_get flow.nodes number ≡ Some head → node_passes flow (same_string head) number ≡ true
head_passes flow number head stands = passes_there flow head number head stands (string_equiv.refl head)

in_order : (nodes : List Node) (i j : ℕ) (a b : Node) → IsStrictlySortedBy node_cmp nodes → i < j → slice_get nodes i ≡ Some a → slice_get nodes j ≡ Some b
    → node_cmp a b ≡ Less
in_order nodes i j a b order before first second =
    ap (λ n. node_cmp n b) (sym (get_or_from_slice_get nodes i a b first))
    ∙ ap (λ n. node_cmp (get_or nodes i b) n) (sym (get_or_from_slice_get nodes j b b second))
    ∙ Less-from_sorted node_cmp nodes i j b order before (slice_get_within nodes j b second)

-- between two nodes of a string stand none of others
together : (flow : Flow) (head : Node) (low mid high : ℕ) → IsStrictlySortedBy node_cmp flow.nodes → low < mid → mid < high
    → node_passes flow (same_string head) low ≡ true → node_passes flow (same_string head) high ≡ true → node_passes flow (same_string head) mid ≡ true
together flow head low mid high order first second is_low is_high =
    passes_there flow head mid b stands (string_equiv.congr head a.node b a.same ∙ between a.node b c.node less more level_ends)
  where
    a : HasString flow head low
    a = has_string flow head low is_low

    c : HasString flow head high
    c = has_string flow head high is_high

    b : Node
    b = get_or flow.nodes mid head

    stands : slice_get flow.nodes mid ≡ Some b
    stands = let within = slice_get_within flow.nodes high c.node c.stands in slice_get-get_or flow.nodes mid head (omega (arith, within))

    less : node_cmp a.node b ≡ Less
    less = in_order flow.nodes low mid a.node b order first a.stands stands

    more : node_cmp b c.node ≡ Less
    more = in_order flow.nodes mid high b c.node order second stands c.stands

    level_ends : same_string a.node c.node ≡ true
    level_ends = sym (string_equiv.congr head a.node c.node a.same) ∙ c.same

-- ---- The first node of a string

other_unless : (b : Bool) → (b ≡ true → ⊥) → b ≡ false
other_unless true never = absurd (never refl)
other_unless false never = refl

same_answer : (a b : Bool) → (b ≡ false → a ≡ false) → not (a || b) ≡ not b
same_answer a true none = always a
  where
    always : (c : Bool) → not (c || true) ≡ false
    always true = refl
    always false = refl
same_answer a false none = ap (λ c. not (c || false)) (none refl)

-- a node is the first one of its string, if the node before it has another one
pub first_behind : (flow : Flow) (number : ℕ) (node : Node) → IsStrictlySortedBy node_cmp flow.nodes → slice_get flow.nodes (number + 1) ≡ Some node
    → is_first flow (number + 1) node ≡ not (node_passes flow (same_string node) number)
first_behind flow number node order stands =
    ap not (any_counts has number) ∙ same_answer (list_any has (range_with_len 0 number)) (has number) none_before
  where
    has : ℕ → Bool
    has = node_passes flow (same_string node)

    apart : (k : ℕ) → k < number → has number ≡ false → has k ≡ true → ⊥
    apart k below other is =
        let wrong : has number ≡ true = together flow node k number (number + 1) order below (omega arith) is (head_passes flow (number + 1) node stands) in
        let both : true ≡ false = sym wrong ∙ other in cc

    none_before : has number ≡ false → list_any has (range_with_len 0 number) ≡ false
    none_before other = none_from_each has number (λ k below. other_unless (has k) (apart k below other))

-- ---- Back edges

-- a node of another string has no back edges
no_back : (head : Node) (l : Loop) (source : Node) (kind : EdgeKind) (target : Node) → same_string head source ≡ false
    → is_back head l source kind target ≡ false
no_back head l source kind target other = go (is_local kind)
  where
    go : (b : Bool) → (b && (same_string head source && in_range l source.address) && same_string head target && (target.address == l.from)) ≡ false
    go true = ap (λ s. (s && in_range l source.address) && same_string head target && (target.address == l.from)) other
    go false = refl

no_back_at : (flow : Flow) (head : Node) (l : Loop) (source : Node) (kind : EdgeKind) (o : Option Node) → same_string head source ≡ false
    → option_map_or (is_back head l source kind) o false ≡ false
no_back_at flow head l source kind None other = refl
no_back_at flow head l source kind (Some target) other = no_back head l source kind target other

edge_fails : (flow : Flow) (head : Node) (l : Loop) (source : Node) (kind : EdgeKind) (to : Option ℕ) → same_string head source ≡ false
    → option_map_or (node_passes flow (is_back head l source kind)) to false ≡ false
edge_fails flow head l source kind None other = refl
edge_fails flow head l source kind (Some to) other = no_back_at flow head l source kind (slice_get flow.nodes to) other

some_edge_fails : (flow : Flow) (head : Node) (l : Loop) (source : Node) (o : Option (Edge ℕ)) → same_string head source ≡ false
    → option_map_or (edge_passes flow (is_back head l) source) o false ≡ false
some_edge_fails flow head l source None other = refl
some_edge_fails flow head l source (Some edge) other = edge_fails flow head l source edge.kind edge.to other

source_fails : (flow : Flow) (head : Node) (l : Loop) (number i : ℕ) (o : Option Node) → option_map_or (same_string head) o false ≡ false
    → option_map_or (λ source. option_map_or (edge_passes flow (is_back head l) source) (slice_get (edges_at flow number) i) false) o false ≡ false
source_fails flow head l number i None other = refl
source_fails flow head l number i (Some source) other = some_edge_fails flow head l source (slice_get (edges_at flow number) i) other

no_backs : (flow : Flow) (head : Node) (l : Loop) (number : ℕ) → node_passes flow (same_string head) number ≡ false
    → NonePasses (id_passes flow (is_back head l)) (edges_from flow) number
no_backs flow head l number other =
    none_of_map (id_passes flow (is_back head l)) (edge_id number) (range_with_len 0 (length (edges_at flow number)))
    (λ i. source_fails flow head l number i (slice_get flow.nodes number) other)

-- no back edges come before the first node of the string
pub no_backs_before : (flow : Flow) (head : Node) (l : Loop) (number : ℕ) → is_first flow number head ≡ true
    → filter (id_passes flow (is_back head l)) (flat_map (edges_from flow) (range_with_len 0 number)) ≡ []
no_backs_before flow head l number first =
    skips (id_passes flow (is_back head l)) (edges_from flow) 0 number (omega arith)
    (λ k from below. no_backs flow head l k (none_below (node_passes flow (same_string head)) number (turned _ first) k below))
  where
    turned : (b : Bool) → not b ≡ true → b ≡ false
    turned true is = absurd cc
    turned false is = refl

-- none come from the node of another string on that stands behind it
pub no_backs_behind : (flow : Flow) (head : Node) (l : Loop) (number place : ℕ) → IsStrictlySortedBy node_cmp flow.nodes
    → slice_get flow.nodes number ≡ Some head → number ≤ place → place < length flow.nodes → node_passes flow (same_string head) place ≡ false
    → passing_edges flow (is_back head l)
    ≡ filter (id_passes flow (is_back head l)) (flat_map (edges_from flow) (range_with_len 0 place))
no_backs_behind flow head l number place order stands from within other =
    skips (id_passes flow (is_back head l)) (edges_from flow) place (length flow.nodes) (omega arith)
    (λ k behind below. no_backs flow head l k (other_unless _ (apart k behind)))
  where
    has : ℕ → Bool
    has = node_passes flow (same_string head)

    -- so the place isn't that of the head
    wrong : has place ≡ true → ⊥
    wrong is = let both : true ≡ false = sym is ∙ other in cc

    there : has number ≡ true
    there = head_passes flow number head stands

    apart : (k : ℕ) → place ≤ k → has k ≡ true → ⊥
    apart k behind is = by (grind arith) (grind arith)
      where
        by : (number < place) ⊎ (number ≡ place) → (place < k) ⊎ (k ≡ place) → ⊥
        by (inr same) second = wrong (ap has (sym same) ∙ there)
        by first (inr same) = wrong (ap has (sym same) ∙ is)
        by (inl first) (inl second) = wrong (together flow head number place k order first second there is)
