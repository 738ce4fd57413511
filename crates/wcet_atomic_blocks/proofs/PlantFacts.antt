-- The laws of plants.
use Rattle.std.proofs.Common.{◌≡◌, ◌≢◌, ℕ, ◌+◌, true, false, eqb, arith, ap, ◌∙◌, subst, sym, refl, Option, Some, None}
use Rattle.std.specs.Prelude.{slice_get, option_map, IsSomeAnd}
use Rattle.std.specs.Option.{option_map_or}
use Rattle.std.proofs.lemmas.Bool.{eq-eqb, eqb-true}
use Rattle.std.proofs.lemmas.Option.{slice_get_within, get_or_from_slice_get, slice_get-map}
use Rattle.flow_graph.specs.declared.flow.Flow.{Flow}
use Rattle.flow_graph.specs.declared.node.Node.{Node}
use Rattle.flow_graph.specs.Graph.{Program, program_of, entries_of}
use Rattle.wcet_atomic_blocks.specs.declared.block.Beginning.{Beginning}
use Rattle.wcet_atomic_blocks.specs.declared.block.Block.{Block}
use Rattle.wcet_atomic_blocks.specs.Blocks.{is_of, successor, HasEdge, IsInBlock, begins, along, IsBlock, IsEntryBlock, IsAfter, beginnings}
use Rattle.wcet_atomic_blocks.specs.Plants.{PlantData, IsPlant, IsEntryNode}
use Rattle.wcet_atomic_blocks.specs.PlantLaws.{EdgesStay, EdgesKeepContext, FirstIsInside, BlocksAreClosed, NodesAreOfOwner, BeginsAtEntry, EntriesBegin, BeginsBehind, AftersBegin, ServicesHaveBlocks, AftersAreNoEntries}
use Rattle.wcet_atomic_blocks.specs.Working.Tables.{IsBeginning, entry, service}
use Rattle.wcet_atomic_blocks.proofs.BeginFacts.{each_beginning, successor_edge}
use Rattle.wcet_atomic_blocks.proofs.GraphFacts.{at_slice, IsEdgeOf, edge_between, edge_keeps}

abbrev program_in : PlantData → Program
program_in plant = program_of plant.image plant.system plant.timing

-- ---- Edges

edge_in : (plant : PlantData) → IsPlant plant → (node next : ℕ) → HasEdge plant.flow node next → IsEdgeOf (program_in plant) plant.flow node next
edge_in plant is node next edge = edge_between (program_in plant) plant.flow node next is.graph.graph edge

pub edges_stay : (plant : PlantData) → IsPlant plant → EdgesStay plant
unfolding EdgesStay
edges_stay plant is node next edge = let e = edge_in plant is node next edge in slice_get_within plant.flow.nodes next e.target e.stands_too

pub edges_keep_context : (plant : PlantData) → IsPlant plant → EdgesKeepContext plant
unfolding EdgesKeepContext
edges_keep_context plant is node next edge =
    let e = edge_in plant is node next edge in
    record {
      before = e.node;
      stands = e.stands;
      after = e.target;
      stands_too = e.stands_too;
      same = edge_keeps (program_in plant) e.node e.target e.place e.edge e.leaves e.arrives;
    }

-- ---- Blocks

block_is : (plant : PlantData) → IsPlant plant → (number : ℕ) (block : Block) → slice_get plant.blocks.blocks number ≡ Some block → IsBlock plant.flow block
block_is plant is number block at = at_slice (IsBlock plant.flow) plant.blocks.blocks number block is.blocks.cut.each at

pub first_is_inside : (plant : PlantData) → IsPlant plant → FirstIsInside plant
unfolding FirstIsInside
first_is_inside plant is number block at = (block_is plant is number block at).complete block.begin.first (begins block.begin.first refl)

pub blocks_are_closed : (plant : PlantData) → IsPlant plant → BlocksAreClosed plant
unfolding BlocksAreClosed
blocks_are_closed plant is number block node next at held plain edge =
    let b = block_is plant is number block at in b.complete next (along node next (b.sound node held) plain edge)

-- where a block begins
beginning_is : (plant : PlantData) → (p : IsPlant plant) → (number : ℕ) (block : Block) → slice_get plant.blocks.blocks number ≡ Some block
    → IsBeginning plant.flow 0 p.blocks.entries block.begin
beginning_is plant p number block at =
    let there : slice_get (beginnings plant.flow p.blocks.entries) number ≡ Some block.begin =
    ap (λ bs. slice_get bs number) (sym p.blocks.cut.begin) ∙ slice_get-map (λ (b : Block). b.begin) plant.blocks.blocks number
    ∙ ap (option_map (λ (b : Block). b.begin)) at in
    each_beginning plant.flow 0 p.blocks.entries block.begin (
      number,
      slice_get_within (beginnings plant.flow p.blocks.entries) number block.begin there,
      get_or_from_slice_get (beginnings plant.flow p.blocks.entries) number block.begin block.begin there,
    )

-- a fact of what is there
there_in : {X : Type 0} (o : Option X) (x : X) (P : X → Type 0) → o ≡ Some x → IsSomeAnd o P → P x
there_in None x P e is = absurd cc
there_in (Some y) x P e is = let same : y ≡ x = cc in subst P same is

entry_node : (plant : PlantData) → (p : IsPlant plant) → (context number : ℕ) → slice_get p.blocks.entries context ≡ Some number
    → IsEntryNode (entries_of plant.image plant.system) plant.flow context number
entry_node plant p context number at =
    let inside = slice_get_within p.blocks.entries context number at in let same = p.blocks.entered.count in
    there_in (slice_get p.blocks.entries context) number (IsEntryNode (entries_of plant.image plant.system) plant.flow context) at
    (p.blocks.entered.each context (omega (arith, inside, same)))

-- a node of that number is of that context
is_of_there : (flow : Flow) (context number : ℕ) (node : Node) → slice_get flow.nodes number ≡ Some node → node.context ≡ context
    → is_of flow context number ≡ true
is_of_there flow context number node at same = ap (λ o. option_map_or (λ (n : Node). eqb n.context context) o false) at ∙ eq-eqb node.context context same

context_there : (flow : Flow) (context number : ℕ) (node : Node) → slice_get flow.nodes number ≡ Some node → is_of flow context number ≡ true
    → node.context ≡ context
context_there flow context number node at of =
    eqb-true node.context context (ap (λ o. option_map_or (λ (n : Node). eqb n.context context) o false) (sym at) ∙ of)

edge_of_context : (plant : PlantData) → IsPlant plant → (context node next : ℕ) → is_of plant.flow context node ≡ true → HasEdge plant.flow node next
    → is_of plant.flow context next ≡ true
edge_of_context plant is context node next of edge =
    let e = edge_in plant is node next edge in
    is_of_there plant.flow context next e.target e.stands_too
    (edge_keeps (program_in plant) e.node e.target e.place e.edge e.leaves e.arrives ∙ context_there plant.flow context node e.node e.stands of)

first_of_owner : (plant : PlantData) → (p : IsPlant plant) → (b : Beginning) → IsBeginning plant.flow 0 p.blocks.entries b
    → is_of plant.flow b.owner b.first ≡ true
first_of_owner plant p b (entry place node at is) =
    let e = entry_node plant p place node at in
    subst (λ (c : Beginning). is_of plant.flow c.owner c.first ≡ true) (sym is)
    (is_of_there plant.flow (0 + place) node e.node e.stands (let same = e.context_is in omega (arith, same)))
first_of_owner plant p b (service place node next inside exists of goes is) =
    subst (λ (c : Beginning). is_of plant.flow c.owner c.first ≡ true) (sym is)
    (edge_of_context plant p (0 + place) node next of (successor_edge plant.flow node next goes).1)

members_of : (plant : PlantData) → IsPlant plant → (context first : ℕ) → is_of plant.flow context first ≡ true → (node : ℕ) → IsInBlock plant.flow first node
    → is_of plant.flow context node ≡ true
members_of plant is context first of node (begins _ same) = subst (λ (n : ℕ). is_of plant.flow context n ≡ true) (sym same) of
members_of plant is context first of next (along node _ inside plain edge) =
    edge_of_context plant is context node next (members_of plant is context first of node inside) edge

pub nodes_are_of_owner : (plant : PlantData) → IsPlant plant → NodesAreOfOwner plant
unfolding NodesAreOfOwner
nodes_are_of_owner plant is number block node at held =
    members_of plant is block.begin.owner block.begin.first (first_of_owner plant is block.begin (beginning_is plant is number block at)) node
    ((block_is plant is number block at).sound node held)

-- ---- Entries and services

some_at : {X : Type 0} (o : Option X) {P Q : X → Type 0} → ((x : X) → o ≡ Some x → P x → Q x) → IsSomeAnd o P → IsSomeAnd o Q
some_at (Some x) each p = each x refl p
some_at None each p = p

pub entries_begin : (plant : PlantData) → IsPlant plant → EntriesBegin plant
unfolding EntriesBegin
entries_begin plant is context inside =
    let same = is.blocks.entered.count in
    some_at (slice_get plant.blocks.entries context)
    (λ number at named. some_at (slice_get plant.blocks.blocks number) (λ block there entered. go number block there entered) named)
    (is.blocks.cut.entry context (omega (arith, same, inside)))
  where
    of_beginning : (b : Beginning) → b.owner ≡ context → b.after ≡ None → IsBeginning plant.flow 0 is.blocks.entries b
        → IsEntryNode (entries_of plant.image plant.system) plant.flow context b.first
    of_beginning b owner after (entry place node at e) =
        let here : context ≡ place = sym owner ∙ ap (λ (c : Beginning). c.owner) e ∙ omega arith in
        let first : b.first ≡ node = ap (λ (c : Beginning). c.first) e in
        subst (IsEntryNode (entries_of plant.image plant.system) plant.flow context) (sym first)
        (entry_node plant is context node (ap (slice_get is.blocks.entries) here ∙ at))
    of_beginning b owner after (service place node next within exists of goes e) =
        absurd (let a : Some node ≡ None = ap (λ (c : Beginning). c.after) (sym e) ∙ after in cc)

    go : (number : ℕ) (block : Block) → slice_get plant.blocks.blocks number ≡ Some block → IsEntryBlock context block → BeginsAtEntry plant context block
    go number block there entered = record {
      owner = entered.owner;
      after = entered.after;
      first = of_beginning block.begin entered.owner entered.after (beginning_is plant is number block there);
    }

-- what the table of nodes says of a block behind a node
named_behind : (plant : PlantData) → IsPlant plant → (node number : ℕ) → slice_get plant.blocks.afters node ≡ Some (Some number)
    → IsSomeAnd (slice_get plant.blocks.blocks number) (λ block. block.begin.after ≡ Some node)
named_behind plant is node number at =
    let inside = slice_get_within plant.blocks.afters node (Some number) at in let same = is.blocks.cut.after_count in
    there_in (slice_get plant.blocks.afters node) (Some number) (IsAfter plant.flow plant.blocks.blocks node) at
    (is.blocks.cut.after node (omega (arith, inside, same)))

pub afters_begin : (plant : PlantData) → IsPlant plant → AftersBegin plant
unfolding AftersBegin
afters_begin plant is node number at =
    some_at (slice_get plant.blocks.blocks number) (λ block there after. of_beginning block after (beginning_is plant is number block there))
    (named_behind plant is node number at)
  where
    of_beginning : (block : Block) → block.begin.after ≡ Some node → IsBeginning plant.flow 0 is.blocks.entries block.begin → BeginsBehind plant node block
    of_beginning block after (entry place first at' e) = absurd (let a : None ≡ Some node = ap (λ (c : Beginning). c.after) (sym e) ∙ after in cc)
    of_beginning block after (service place other next within exists of goes e) =
        let a : Some other ≡ Some node = ap (λ (c : Beginning). c.after) (sym e) ∙ after in
        let same : other ≡ node = cc in
        let first : next ≡ block.begin.first = ap (λ (c : Beginning). c.first) (sym e) in
        let owner : 0 + place ≡ block.begin.owner = ap (λ (c : Beginning). c.owner) (sym e) in
        record {
          after = after;
          first = ap (successor plant.flow) (sym same) ∙ goes ∙ ap Some first;
          owner = subst (λ (c : ℕ). is_of plant.flow c node ≡ true) owner (subst (λ (n : ℕ). is_of plant.flow (0 + place) n ≡ true) same of);
        }

pub services_have_blocks : (plant : PlantData) → IsPlant plant → ServicesHaveBlocks plant
unfolding ServicesHaveBlocks
services_have_blocks plant is node next goes =
    let e = edge_in plant is node next (successor_edge plant.flow node next goes).1 in
    some_at (slice_get plant.blocks.afters node) (λ after there named. there_is after named)
    (is.blocks.cut.after node (slice_get_within plant.flow.nodes node e.node e.stands))
  where
    there_is : (after : Option ℕ) → IsAfter plant.flow plant.blocks.blocks node after → after ≢ None
    there_is None none = λ e. let w : None ≡ Some next = sym none ∙ goes in cc
    there_is (Some number) named = λ e. cc

pub afters_are_no_entries : (plant : PlantData) → IsPlant plant → AftersAreNoEntries plant
unfolding AftersAreNoEntries
afters_are_no_entries plant is node context number at entered =
    let inside = slice_get_within plant.blocks.entries context number entered in
    let same = is.blocks.cut.entry_count in
    let is_entry = there_in (slice_get plant.blocks.entries context) number (λ n. IsSomeAnd (slice_get plant.blocks.blocks n) (IsEntryBlock context)) entered
    (is.blocks.cut.entry context (omega (arith, inside, same))) in
    both (slice_get plant.blocks.blocks number) is_entry (named_behind plant is node number at)
  where
    both : (o : Option Block) → IsSomeAnd o (IsEntryBlock context) → IsSomeAnd o (λ block. block.begin.after ≡ Some node) → ⊥
    both (Some block) entry_is behind_is = let a : None ≡ Some node = sym entry_is.after ∙ behind_is in cc
    both None entry_is behind_is = absurd entry_is
