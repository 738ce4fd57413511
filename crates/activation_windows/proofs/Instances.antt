-- Which edges, blocks and nodes a loop instance lists.
use Rattle.std.proofs.Common.{◌≡◌, ℕ, ◌<◌, Bool, true, false, cond, List, [], ◌∷◌, length, filter, Contains, Option, Some, refl, sym, ◌∙◌, ap, arith}
use Rattle.std.specs.Prelude.{◌==◌, ◌&&◌, ◌||◌, nat_eq, slice_get}
use Rattle.std.specs.List.{list_any, flat_map, range_with_len}
use Rattle.std.specs.Option.{option_map_or}
use Rattle.std.proofs.lemmas.Bool.{and_parts, eqb-true, eq-eqb}
use Rattle.std.proofs.lemmas.Option.{slice_get_within}
use Rattle.timing_file.specs.declared.timing.Loop.{Loop}
use Rattle.osek_machine.specs.Events.{Execution}
use Rattle.flow_graph.specs.declared.edge.Edge.{Edge}
use Rattle.flow_graph.specs.declared.edge.EdgeKind.{EdgeKind}
use Rattle.flow_graph.specs.declared.flow.Flow.{Flow}
use Rattle.flow_graph.specs.declared.node.Node.{Node}
use Rattle.wcet_atomic_blocks.specs.declared.block.Block.{Block}
use Rattle.wcet_atomic_blocks.specs.declared.loops.EdgeId.{EdgeId}
use Rattle.wcet_atomic_blocks.specs.Blocks.{edges_at}
use Rattle.wcet_atomic_blocks.specs.Loops.{node_passes, edge_passes, id_passes, edge_id, edges_from, passing_edges, block_enters, enters}
use Rattle.wcet_atomic_blocks.specs.Plants.{PlantData}
use Rattle.row_build.specs.Columns.{Along}
use Rattle.row_build.specs.Families.{is_listed, is_listed_edge}
use Rattle.shadow_runs.proofs.Members.{kept_member, mapped_member, member_cases, range_member}
use Rattle.activation_windows.specs.Windows.{edge_taken}
use Rattle.activation_windows.proofs.EdgesTaken.{TakesEdge}
use Rattle.activation_windows.proofs.Moving.{flat_member}

-- ---- Lists

any_passes : {A : Type 0} (p test : A → Bool) (xs : List A) → list_any test (filter p xs) ≡ true → (x : A) × (p x ≡ true) × (test x ≡ true)
any_passes p test [] e = absurd cc
any_passes {A} p test (x ∷ xs) e = first (p x) refl e (any_passes p test xs)
  where
    found : (here : Bool) → test x ≡ here → p x ≡ true → (here || list_any test (filter p xs)) ≡ true
        → (list_any test (filter p xs) ≡ true → (y : A) × (p y ≡ true) × (test y ≡ true)) → (y : A) × (p y ≡ true) × (test y ≡ true)
    found true is passes some others = (x, passes, is)
    found false is passes some others = others some

    first : (keeps : Bool) → p x ≡ keeps → list_any test (cond keeps (x ∷ filter p xs) (filter p xs)) ≡ true
        → (list_any test (filter p xs) ≡ true → (y : A) × (p y ≡ true) × (test y ≡ true)) → (y : A) × (p y ≡ true) × (test y ≡ true)
    first true passes some others = found (test x) refl passes some others
    first false passes some others = others some

either_true : (a b : Bool) → b ≡ true → (a || b) ≡ true
either_true true b is = refl
either_true false b is = is

first_true : (a b : Bool) → a ≡ true → (a || b) ≡ true
first_true true b is = refl
first_true false b is = absurd cc

any_member : {A : Type 0} (test : A → Bool) (xs : List A) (x : A) → test x ≡ true → Contains xs x → list_any test xs ≡ true
any_member test [] x is has = absurd (let inside = has.1 in omega arith)
any_member test (y ∷ ys) x is has = member_cases x y ys has (λ same. first_true (test y) (list_any test ys) (ap test same ∙ is))
    (λ other. either_true (test y) (list_any test ys) (any_member test ys x is other))

-- ---- Edges

same_id : (edge : EdgeId) (along : Along) → (edge.node == along.node && (edge.i == along.place)) ≡ true → edge ≡ edge_id along.node along.place
same_id edge along is =
    let parts = and_parts (edge.node == along.node) (edge.i == along.place) is in
    let node : edge.node ≡ along.node = eqb-true edge.node along.node parts.0 in
    let place : edge.i ≡ along.place = eqb-true edge.i along.place parts.1 in
    ap (λ n. edge_id n edge.i) node ∙ ap (edge_id along.node) place

its_id : (along : Along) → (along.node == along.node && (along.place == along.place)) ≡ true
its_id along = rw (eq-eqb along.node along.node refl) (eq-eqb along.place along.place refl)

-- the edge of a step passes a test as its nodes do
id_is : (plant : PlantData) (execution : Execution) (takes : TakesEdge plant execution) (test : Node → EdgeKind → Node → Bool)
    → id_passes plant.flow test (edge_id takes.at.number (edge_taken plant execution)) ≡ test takes.at.node takes.edge.kind takes.next
id_is plant execution takes test =
    ap (λ (o : Option Node). option_map_or
    (λ source. option_map_or (edge_passes plant.flow test source) (slice_get (edges_at plant.flow takes.at.number) (edge_taken plant execution)) false) o false)
    takes.at.listed
    ∙ (ap (λ (o : Option (Edge ℕ)). option_map_or (edge_passes plant.flow test takes.at.node) o false) takes.leaves
    ∙ (ap (λ (o : Option ℕ). option_map_or (node_passes plant.flow (test takes.at.node takes.edge.kind)) o false) takes.arrives
    ∙ ap (λ (o : Option Node). option_map_or (test takes.at.node takes.edge.kind) o false) takes.listed))

abbrev pub along_in : (plant : PlantData) (execution : Execution) → TakesEdge plant execution → Along
along_in plant execution takes = record { node = takes.at.number; place = edge_taken plant execution; edge = takes.edge }

pub listed_passes : (plant : PlantData) (execution : Execution) (takes : TakesEdge plant execution) (test : Node → EdgeKind → Node → Bool)
    → is_listed_edge (passing_edges plant.flow test) (along_in plant execution takes) ≡ true
    → test takes.at.node takes.edge.kind takes.next ≡ true
listed_passes plant execution takes test listed =
    let along = along_in plant execution takes in
    let found = any_passes (id_passes plant.flow test) (λ (edge : EdgeId). edge.node == along.node && (edge.i == along.place))
    (flat_map (edges_from plant.flow) (range_with_len 0 (length plant.flow.nodes))) listed in
    sym (id_is plant execution takes test) ∙ (ap (id_passes plant.flow test) (sym (same_id found.0 along found.2)) ∙ found.1)

pub passes_listed : (plant : PlantData) (execution : Execution) (takes : TakesEdge plant execution) (test : Node → EdgeKind → Node → Bool)
    → test takes.at.node takes.edge.kind takes.next ≡ true
    → is_listed_edge (passing_edges plant.flow test) (along_in plant execution takes) ≡ true
passes_listed plant execution takes test passes =
    let along = along_in plant execution takes in
    let all = flat_map (edges_from plant.flow) (range_with_len 0 (length plant.flow.nodes)) in
    let own = range_with_len 0 (length (edges_at plant.flow along.node)) in
    any_member (λ (edge : EdgeId). edge.node == along.node && (edge.i == along.place)) (filter (id_passes plant.flow test) all)
    (edge_id along.node along.place) (its_id along)
    (kept_member (id_passes plant.flow test) all (edge_id along.node along.place) (id_is plant execution takes test ∙ passes)
    (flat_member (edges_from plant.flow) (range_with_len 0 (length plant.flow.nodes)) along.node (edge_id along.node along.place)
    (range_member (length plant.flow.nodes) along.node (slice_get_within plant.flow.nodes along.node takes.at.node takes.at.listed))
    (mapped_member (edge_id along.node) own along.place
    (range_member (length (edges_at plant.flow along.node)) along.place
    (slice_get_within (edges_at plant.flow along.node) along.place takes.edge takes.leaves)))))

-- ---- Numbers

pub number_passes : (p : ℕ → Bool) (xs : List ℕ) (n : ℕ) → is_listed (filter p xs) n ≡ true → p n ≡ true
number_passes p xs n listed =
    let found = any_passes p (nat_eq n) xs listed in
    ap p (eqb-true n found.0 found.2) ∙ found.1

pub number_listed : (p : ℕ → Bool) (count n : ℕ) → n < count → p n ≡ true → is_listed (filter p (range_with_len 0 count)) n ≡ true
number_listed p count n within passes =
    any_member (nat_eq n) (filter p (range_with_len 0 count)) n (eq-eqb n n refl)
    (kept_member p (range_with_len 0 count) n passes (range_member count n within))

-- blocks that enter, and nodes that pass
pub block_is : (flow : Flow) (blocks : List Block) (head : Node) (l : Loop) (number : ℕ) (block : Block) → slice_get blocks number ≡ Some block
    → block_enters flow blocks head l number ≡ enters flow head l block.begin
block_is flow blocks head l number block there = ap (λ (o : Option Block). option_map_or (λ b. enters flow head l b.begin) o false) there

pub node_is : (flow : Flow) (test : Node → Bool) (number : ℕ) (node : Node) → slice_get flow.nodes number ≡ Some node
    → node_passes flow test number ≡ test node
node_is flow test number node there = ap (λ (o : Option Node). option_map_or test o false) there
