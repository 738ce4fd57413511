-- Which strings of open calls have a column: a loop instance that has the column has one of these strings, and each
-- string has one first node.
use Rattle.std.proofs.Common.{◌≡◌, ℕ, suc, ◌<◌, ◌≤◌, Bool, true, false, List, [], ◌++◌, length, map, take, get_or, Option, Some, None, inl, inr, refl, sym, ap, ◌∙◌, length-append, arith}
use Rattle.std.specs.Prelude.{◌&&◌, ◌||◌, ◌==◌, ◌⊎◌, nat_eq, filter, slice_get, option_and_then, option_to_list}
use Rattle.std.specs.Cmp.{IsEquivalence}
use Rattle.std.specs.Cmp.Lexicographic.{pointwise}
use Rattle.std.specs.List.{count_by, flat_map, list_any, range_with_len, starts_with}
use Rattle.std.specs.Option.{option_map_or}
use Rattle.std.proofs.lemmas.Bool.{and_from, and_parts, both_ways, eqb-true, not-true, or_cases, or_left, or_right}
use Rattle.std.proofs.lemmas.Cmp.{and_equiv, nat_eq_equiv, nat_list_eq_equiv, on_equiv}
use Rattle.std.proofs.lemmas.List.{take_all}
use Rattle.std.proofs.lemmas.List.Folds.{list_any-append, list_any_at}
use Rattle.std.proofs.lemmas.List.FromFn.{get_or-map-range_with_len, get_or-range_with_len, length-map-range_with_len, length-range_with_len}
use Rattle.std.proofs.lemmas.Option.{slice_get_within}
use Rattle.timing_file.specs.declared.timing.Loop.{Loop}
use Rattle.flow_graph.specs.declared.edge.Edge.{Edge}
use Rattle.flow_graph.specs.declared.edge.EdgeKind.{EdgeKind}
use Rattle.flow_graph.specs.declared.flow.Flow.{Flow}
use Rattle.flow_graph.specs.declared.node.Node.{Node}
use Rattle.flow_graph.specs.Faults.{is_local}
use Rattle.wcet_atomic_blocks.specs.declared.block.Block.{Block}
use Rattle.wcet_atomic_blocks.specs.declared.loops.EdgeId.{EdgeId}
use Rattle.wcet_atomic_blocks.specs.Blocks.{edges_at}
use Rattle.wcet_atomic_blocks.specs.Loops as loops
use Rattle.wcet_atomic_blocks.specs.Loops.{same_string, node_passes, id_passes, edge_id, is_first}
use Rattle.row_build.specs.Columns.{Along, Column, Starts, Moves, Goes, Begins, Stands}
use Rattle.row_build.specs.Families.{is_listed, is_listed_edge}
use Rattle.row_laws.proofs.Totals.{count-range, kept-passes}

string_equiv : IsEquivalence same_string
string_equiv = and_equiv (on_equiv (λ (n : Node). n.context) nat_eq_equiv) (on_equiv (λ (n : Node). n.sites) nat_list_eq_equiv)

-- ---- The first node of a string

-- the node of that number is the first one of the key's string
abbrev pub heads : Flow → Node → ℕ → Bool
heads flow key number = option_map_or (λ node. is_first flow number node && same_string node key) (slice_get flow.nodes number) false

record Heads (flow : Flow) (key : Node) (number : ℕ) : Type 0 where
  node : Node
  stands : slice_get flow.nodes number ≡ Some node
  first : is_first flow number node ≡ true
  same : same_string node key ≡ true

heads_at : (flow : Flow) (key : Node) (number : ℕ) → heads flow key number ≡ true → Heads flow key number
heads_at flow key number is = at (slice_get flow.nodes number) refl is
  where
    at : (found : Option Node) → slice_get flow.nodes number ≡ found
        → option_map_or (λ node. is_first flow number node && same_string node key) found false ≡ true → Heads flow key number
    at None there is = absurd cc
    at (Some node) there is =
        let parts = and_parts (is_first flow number node) (same_string node key) is in
        record { node = node; stands = there; first = parts.0; same = parts.1 }

heads_apart : (flow : Flow) (key : Node) (i j : ℕ) → i < j → heads flow key i ≡ true → heads flow key j ≡ true → ⊥
heads_apart flow key i j before first second =
    both_ways (list_any passes (range_with_len 0 j)) (not-true _ b.first)
    (list_any_at passes (range_with_len 0 j) i 0 (omega (arith, count)) (ap passes place ∙ there))
  where
    a : Heads flow key i
    a = heads_at flow key i first

    b : Heads flow key j
    b = heads_at flow key j second

    passes : ℕ → Bool
    passes = node_passes flow (same_string b.node)

    count : length (range_with_len 0 j) ≡ j
    count = length-range_with_len 0 j

    place : get_or (range_with_len 0 j) i 0 ≡ i
    place = get_or-range_with_len 0 j i 0 before ∙ omega arith

    same : same_string b.node a.node ≡ true
    same = string_equiv.symm b.node a.node ∙ (string_equiv.congr a.node key b.node a.same ∙ (string_equiv.symm key b.node ∙ b.same))

    there : passes i ≡ true
    there = ap (λ (o : Option Node). option_map_or (same_string b.node) o false) a.stands ∙ same

pub heads-once : (flow : Flow) (key : Node) (n : ℕ) → count_by (heads flow key) (range_with_len 0 n) ≤ 1
heads-once flow key n = count-range (heads flow key) 0 n (heads_apart flow key)

-- ---- Edges that are listed

pub record Passes (flow : Flow) (test : Node → EdgeKind → Node → Bool) (id : EdgeId) : Type 0 where
  pub source : Node
  pub stands : slice_get flow.nodes id.node ≡ Some source
  pub edge : Edge ℕ
  pub leaves : slice_get (edges_at flow id.node) id.i ≡ Some edge
  pub to : ℕ
  pub arrives : edge.to ≡ Some to
  pub target : Node
  pub stands_too : slice_get flow.nodes to ≡ Some target
  pub passes : test source edge.kind target ≡ true

-- a test that something passes
some_passes : {A : Type 0} (test : A → Bool) (found : Option A) → option_map_or test found false ≡ true → (x : A) × (found ≡ Some x) × (test x ≡ true)
some_passes test None is = absurd cc
some_passes test (Some x) is = (x, refl, is)

passes_at : (flow : Flow) (test : Node → EdgeKind → Node → Bool) (id : EdgeId) → id_passes flow test id ≡ true → Passes flow test id
passes_at flow test id is =
    let source = some_passes (λ source. option_map_or (loops.edge_passes flow test source) (slice_get (edges_at flow id.node) id.i) false)
    (slice_get flow.nodes id.node) is in
    let edge = some_passes (loops.edge_passes flow test source.0) (slice_get (edges_at flow id.node) id.i) source.2 in
    let to = some_passes (node_passes flow (test source.0 edge.0.kind)) edge.0.to edge.2 in
    let target = some_passes (test source.0 edge.0.kind) (slice_get flow.nodes to.0) to.2 in
    record {
      source = source.0;
      stands = source.1;
      edge = edge.0;
      leaves = edge.1;
      to = to.0;
      arrives = to.1;
      target = target.0;
      stands_too = target.1;
      passes = target.2;
    }

same_id : (edge : EdgeId) (along : Along) → (edge.node == along.node && edge.i == along.place) ≡ true → edge ≡ edge_id along.node along.place
same_id edge along is =
    let parts = and_parts (edge.node == along.node) (edge.i == along.place) is in
    ap (λ n. edge_id n edge.i) (eqb-true edge.node along.node parts.0) ∙ ap (edge_id along.node) (eqb-true edge.i along.place parts.1)

listed_passes : (flow : Flow) (test : Node → EdgeKind → Node → Bool) (along : Along) → is_listed_edge (loops.passing_edges flow test) along ≡ true
    → Passes flow test (edge_id along.node along.place)
listed_passes flow test along listed =
    let found = kept-passes (id_passes flow test) (λ (edge : EdgeId). edge.node == along.node && edge.i == along.place)
    (flat_map (loops.edges_from flow) (range_with_len 0 (length flow.nodes))) listed in
    passes_at flow test (edge_id along.node along.place) (ap (id_passes flow test) (sym (same_id found.0 along found.2)) ∙ found.1)

number_passes : (p : ℕ → Bool) (xs : List ℕ) (n : ℕ) → is_listed (filter p xs) n ≡ true → p n ≡ true
number_passes p xs n listed =
    let found = kept-passes p (nat_eq n) xs listed in
    ap p (eqb-true n found.0 found.2) ∙ found.1

-- ---- The strings of a column

-- the node with so many of its open calls, the outermost ones
abbrev cut_to : Node → ℕ → Node
cut_to node count = record node { sites = take count node.sites }

abbrev prefixes : Node → List Node
prefixes node = map (cut_to node) (range_with_len 0 (suc (length node.sites)))

abbrev target_of : Flow → Along → Option Node
target_of flow along =
    option_and_then (slice_get flow.nodes) (option_and_then (λ edge. edge.to) (slice_get (edges_at flow along.node) along.place))

abbrev first_of : Flow → List Block → ℕ → Option Node
first_of flow blocks block = option_and_then (λ b. slice_get flow.nodes b.begin.first) (slice_get blocks block)

-- nodes of the strings whose loop instances may have the column
abbrev pub strings_of : Flow → List Block → Column → List Node
strings_of flow blocks (Starts start) = []
strings_of flow blocks (Moves going) = []
strings_of flow blocks (Goes along) = option_to_list (slice_get flow.nodes along.node) ++ option_to_list (target_of flow along)
strings_of flow blocks (Begins block) = option_to_list (first_of flow blocks block)
strings_of flow blocks (Stands node) = option_map_or prefixes (slice_get flow.nodes node) []

-- the instance of a loop at a head has the column
abbrev pub has_column : Flow → List Block → Node → Loop → Column → Bool
has_column flow blocks head l (Starts start) = false
has_column flow blocks head l (Moves going) = false
has_column flow blocks head l (Goes along) =
    is_listed_edge (loops.passing_edges flow (loops.is_back head l)) along || is_listed_edge (loops.passing_edges flow (loops.is_entering head l)) along
has_column flow blocks head l (Begins block) =
    is_listed (filter (loops.block_enters flow blocks head l) (range_with_len 0 (length blocks))) block
has_column flow blocks head l (Stands node) = is_listed (loops.passing_nodes flow (loops.lies_within head l)) node

-- ---- An instance that has a column has one of its strings

edge_strings : (flow : Flow) (head : Node) (l : Loop) (along : Along)
    → (is_listed_edge (loops.passing_edges flow (loops.is_back head l)) along
    || is_listed_edge (loops.passing_edges flow (loops.is_entering head l)) along) ≡ true
    → list_any (same_string head) (option_to_list (slice_get flow.nodes along.node) ++ option_to_list (target_of flow along)) ≡ true
edge_strings flow head l along has =
    by (or_cases (is_listed_edge (loops.passing_edges flow (loops.is_back head l)) along)
    (is_listed_edge (loops.passing_edges flow (loops.is_entering head l)) along) has)
  where
    sources : List Node
    sources = option_to_list (slice_get flow.nodes along.node)

    targets : List Node
    targets = option_to_list (target_of flow along)

    back : Passes flow (loops.is_back head l) (edge_id along.node along.place) → list_any (same_string head) (sources ++ targets) ≡ true
    back p =
        let local = is_local p.edge.kind in
        let inside = loops.is_inside head l p.source in
        let first = and_parts (local && inside && same_string head p.target) (p.target.address == l.from) p.passes in
        let second = and_parts (local && inside) (same_string head p.target) first.0 in
        let third = and_parts local inside second.0 in
        let same = and_parts (same_string head p.source) (loops.in_range l p.source.address) third.1 in
        ap (λ (o : Option Node). list_any (same_string head) (option_to_list o ++ targets)) p.stands
        ∙ or_left (same_string head p.source) (list_any (same_string head) targets) same.0

    entering : Passes flow (loops.is_entering head l) (edge_id along.node along.place) → list_any (same_string head) (sources ++ targets) ≡ true
    entering p =
        let inside = and_parts (loops.is_inside head l p.target) (loops.comes_from_outside head l p.source p.edge.kind) p.passes in
        let same = and_parts (same_string head p.target) (loops.in_range l p.target.address) inside.0 in
        let there : target_of flow along ≡ Some p.target =
        ap (λ (o : Option (Edge ℕ)). option_and_then (slice_get flow.nodes) (option_and_then (λ edge. edge.to) o)) p.leaves
        ∙ (ap (option_and_then (slice_get flow.nodes)) p.arrives ∙ p.stands_too) in
        list_any-append (same_string head) sources targets
        ∙ or_right (list_any (same_string head) sources) (list_any (same_string head) targets)
        (ap (λ (o : Option Node). list_any (same_string head) (option_to_list o)) there ∙ or_left (same_string head p.target) false same.0)

    by : (is_listed_edge (loops.passing_edges flow (loops.is_back head l)) along ≡ true)
        ⊎ (is_listed_edge (loops.passing_edges flow (loops.is_entering head l)) along ≡ true)
        → list_any (same_string head) (sources ++ targets) ≡ true
    by (inl listed) = back (listed_passes flow (loops.is_back head l) along listed)
    by (inr listed) = entering (listed_passes flow (loops.is_entering head l) along listed)

block_strings : (flow : Flow) (blocks : List Block) (head : Node) (l : Loop) (block : ℕ) → loops.block_enters flow blocks head l block ≡ true
    → list_any (same_string head) (option_to_list (first_of flow blocks block)) ≡ true
block_strings flow blocks head l block enters =
    let found = some_passes (λ (b : Block). loops.enters flow head l b.begin) (slice_get blocks block) enters in
    let parts = and_parts (node_passes flow (loops.is_inside head l) found.0.begin.first) (loops.begins_outside flow l found.0.begin.after) found.2 in
    let node = some_passes (loops.is_inside head l) (slice_get flow.nodes found.0.begin.first) parts.0 in
    let same = and_parts (same_string head node.0) (loops.in_range l node.0.address) node.2 in
    let there : first_of flow blocks block ≡ Some node.0 =
    ap (option_and_then (λ (b : Block). slice_get flow.nodes b.begin.first)) found.1 ∙ node.1 in
    ap (λ (o : Option Node). list_any (same_string head) (option_to_list o)) there ∙ or_left (same_string head node.0) false same.0

in_prefixes : (head node : Node) (count : ℕ) → (head.context == node.context) ≡ true → count ≤ length node.sites
    → pointwise nat_eq head.sites (take count node.sites) ≡ true → list_any (same_string head) (prefixes node) ≡ true
in_prefixes head node count context within sites =
    let all = length-map-range_with_len (cut_to node) 0 (suc (length node.sites)) in
    let there : get_or (prefixes node) count node ≡ cut_to node count =
    get_or-map-range_with_len (cut_to node) 0 (suc (length node.sites)) count count node (omega arith) (omega arith) in
    list_any_at (same_string head) (prefixes node) count node (omega arith)
    (ap (same_string head) there ∙ and_from (head.context == node.context) (pointwise nat_eq head.sites (take count node.sites)) context sites)

within_strings : (head : Node) (l : Loop) (node : Node) → loops.lies_within head l node ≡ true → list_any (same_string head) (prefixes node) ≡ true
within_strings head l node lies = by (or_cases (loops.is_inside head l node) (loops.is_called_inside head l node) lies)
  where
    by : (loops.is_inside head l node ≡ true) ⊎ (loops.is_called_inside head l node ≡ true) → list_any (same_string head) (prefixes node) ≡ true
    by (inl inside) =
        let same = and_parts (same_string head node) (loops.in_range l node.address) inside in
        let parts = and_parts (head.context == node.context) (pointwise nat_eq head.sites node.sites) same.0 in
        in_prefixes head node (length node.sites) parts.0 (omega arith)
        (ap (pointwise nat_eq head.sites) (take_all (length node.sites) node.sites (omega arith)) ∙ parts.1)
    by (inr called) =
        let site_in = option_map_or (loops.in_range l) (slice_get node.sites (length head.sites)) false in
        let first = and_parts ((head.context == node.context) && site_in) (starts_with nat_eq node.sites head.sites) called in
        let second = and_parts (head.context == node.context) site_in first.0 in
        let site = some_passes (loops.in_range l) (slice_get node.sites (length head.sites)) second.1 in
        let within = slice_get_within node.sites (length head.sites) site.0 site.1 in
        in_prefixes head node (length head.sites) second.0 (omega arith) first.1

pub has_string : (flow : Flow) (blocks : List Block) (head : Node) (l : Loop) (column : Column) → has_column flow blocks head l column ≡ true
    → list_any (same_string head) (strings_of flow blocks column) ≡ true
has_string flow blocks head l (Starts start) has = absurd cc
has_string flow blocks head l (Moves going) has = absurd cc
has_string flow blocks head l (Goes along) has = edge_strings flow head l along has
has_string flow blocks head l (Begins block) has =
    block_strings flow blocks head l block (number_passes (loops.block_enters flow blocks head l) (range_with_len 0 (length blocks)) block has)
has_string flow blocks head l (Stands number) has =
    let node = some_passes (loops.lies_within head l) (slice_get flow.nodes number)
    (number_passes (node_passes flow (loops.lies_within head l)) (range_with_len 0 (length flow.nodes)) number has) in
    ap (λ (o : Option Node). list_any (same_string head) (option_map_or prefixes o [])) node.1 ∙ within_strings head l node.0 node.2

-- ---- There are few

one_at_most : {A : Type 0} (o : Option A) → length (option_to_list o) ≤ 1
one_at_most None = omega arith
one_at_most (Some x) = omega arith

pub few_strings : (flow : Flow) (blocks : List Block) (column : Column)
    → ((number : ℕ) (node : Node) → slice_get flow.nodes number ≡ Some node → length node.sites ≤ 16) → length (strings_of flow blocks column) ≤ 17
few_strings flow blocks (Starts start) shallow = omega arith
few_strings flow blocks (Moves going) shallow = omega arith
few_strings flow blocks (Goes along) shallow =
    let source = one_at_most (slice_get flow.nodes along.node) in
    let target = one_at_most (target_of flow along) in
    let both = length-append (option_to_list (slice_get flow.nodes along.node)) (option_to_list (target_of flow along)) in
    omega arith
few_strings flow blocks (Begins block) shallow = let one = one_at_most (first_of flow blocks block) in omega arith
few_strings flow blocks (Stands number) shallow = at (slice_get flow.nodes number) refl
  where
    at : (found : Option Node) → slice_get flow.nodes number ≡ found → length (option_map_or prefixes found []) ≤ 17
    at None there = omega arith
    at (Some node) there =
        let most = shallow number node there in
        let all = length-map-range_with_len (cut_to node) 0 (suc (length node.sites)) in
        omega arith
