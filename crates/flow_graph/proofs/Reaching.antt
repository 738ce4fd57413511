-- How the nodes are found that are reached.
use Rattle.std.proofs.lemmas.Bool.Decides.{nat_tests}
use Rattle.std.proofs.Common.{◌≡◌, ℕ, zero, suc, ◌+◌, ◌<◌, ◌≤◌, Bool, true, false, cond, List, [], ◌∷◌, ◌++◌, length, take, get_or, Option, Some, None, refl, sym, ap, ◌∙◌, subst, inl, inr, append_assoc, arith}
use Rattle.std.specs.Prelude.{slice_get, All, Contains, IfSome, option_and_then, ◌⊎◌, ◌&&◌, ◌==◌, nat_eq, is_none}
use Rattle.std.specs.Option.{option_map_or}
use Rattle.std.proofs.lemmas.List.{append-nil, take_more, get_or_append_left}
use Rattle.std.proofs.lemmas.List.Elements.{All-nil, All-append, All-weaker, All-contains, Contains-get_or, Contains-append_left, Contains-append_right, Contains-push, Contains-append_cases}
use Rattle.std.proofs.lemmas.Option.{get_or_from_slice_get, slice_get-get_or, slice_get_within, none-some}
use Rattle.flow_graph.specs.declared.edge.Edge.{Edge}
use Rattle.flow_graph.specs.declared.fault.CodeKind.{CodeKind}
use Rattle.flow_graph.specs.declared.node.Node.{Node}
use Rattle.flow_graph.specs.Graph.{Program, edges_of}
use Rattle.flow_graph.specs.Faults.{entry_in, is_entry_of, fault_of, Leads, IsNode, entry as at_entry, along}
use Rattle.flow_graph.specs.Working.Found.{AreOrdered, Adds}
use Rattle.flow_graph.specs.Working.Reached.{HasEntries, IsTargetOf, GrowsBy, GoesOn, IsSearch, IsSearched, Reaches}
use Rattle.flow_graph.proofs.Nodes.{Contains-at, at-Contains, same_some}

below_or_at : (m n : ℕ) → m < n + 1 → (m < n) ⊎ (m ≡ n)
below_or_at m n lt = grind arith

-- what held of all before, and of what is added, holds of all
All-added : (P : Node → Type 0) (node : Node) (before after : List Node) → Adds node before after → All P before → P node → All P after
All-added P node before after adds all one =
    subst (λ xs. All P xs) (sym adds.is) (All-append P before adds.more all
    (All-weaker (λ other. other ≡ node) P (λ other is. subst P (sym is) one) adds.more adds.only))

Contains-added : (node : Node) (before after : List Node) → Adds node before after → (other : Node) → Contains before other → Contains after other
Contains-added node before after adds other has = subst (λ xs. Contains xs other) (sym adds.is) (Contains-append_left before adds.more other has)

-- ---- Entries

pub no_entries : (entries : List (Option ℕ)) → HasEntries entries 0 []
no_entries entries = record { are = All-nil _; all = λ node lt is. absurd (omega arith) }

both_true : (a b : Bool) → (a && b) ≡ true → (a ≡ true) × (b ≡ true)
both_true true b is = (refl, is)
both_true false b is = absurd cc

no_sites : (sites : List ℕ) → (length sites == 0) ≡ true → sites ≡ []
no_sites [] is = refl
no_sites (site ∷ sites) is = let none : length (site ∷ sites) ≡ 0 = grind (arith, nat_tests) in absurd (omega arith)

equal : (m n : ℕ) → nat_eq m n ≡ true → m ≡ n
equal m n is = grind (arith, nat_tests)

-- whether an entry of its context is the node's address
matches : ℕ → Option ℕ → Bool
matches address entry = option_map_or (nat_eq address) entry false

-- entry nodes of one context are one
same_entry : (entries : List (Option ℕ)) (node : Node) (context address : ℕ) → node.context ≡ context → entry_in entries context ≡ Some address
    → is_entry_of entries node ≡ true → node ≡ record { context = context; sites = []; address = address }
same_entry entries node context address at entry is =
    let parts = both_true (length node.sites == 0) _ is in
    let matched : option_map_or (nat_eq node.address) (entry_in entries node.context) false ≡ true = parts.1 in
    let here : nat_eq node.address address ≡ true = subst (λ e. option_map_or (nat_eq node.address) e false ≡ true)
    (ap (entry_in entries) at ∙ entry) matched in
    one node.context context node.sites node.address address at (no_sites node.sites parts.0) (equal node.address address here)
  where
    one : (c d : ℕ) (sites : List ℕ) (x y : ℕ) → c ≡ d → sites ≡ [] → x ≡ y
        → ◌≡◌ {A = Node} (record { context = c; sites = sites; address = x }) (record { context = d; sites = []; address = y })
    one c d sites x y e f g = rw (e, f, g) refl

pub more_entries : (entries : List (Option ℕ)) (context address : ℕ) (before after : List Node) → HasEntries entries context before
    → entry_in entries context ≡ Some address
    → is_entry_of entries (record { context = context; sites = []; address = address }) ≡ true
    → Adds (record { context = context; sites = []; address = address }) before after → HasEntries entries (context + 1) after
more_entries entries context address before after has entry is adds = record {
  are = All-added (λ node. is_entry_of entries node ≡ true) _ before after adds has.are is;
  all = λ node lt is. all node is (below_or_at node.context context lt);
}
  where
    all : (node : Node) → is_entry_of entries node ≡ true → (node.context < context) ⊎ (node.context ≡ context) → Contains after node
    all node is (inl lt) = Contains-added _ before after adds node (has.all node lt is)
    all node is (inr at) = subst (λ n. Contains after n) (sym (same_entry entries node context address at entry is)) adds.has

pub same_entries : (entries : List (Option ℕ)) (context : ℕ) (nodes : List Node) → HasEntries entries context nodes → entry_in entries context ≡ None
    → HasEntries entries (context + 1) nodes
same_entries entries context nodes has entry = record {
  are = has.are;
  all = λ node lt is. all node is (below_or_at node.context context lt);
}
  where
    none : (node : Node) → is_entry_of entries node ≡ true → node.context ≡ context → false ≡ true
    none node is at = subst (λ e. option_map_or (nat_eq node.address) e false ≡ true) (ap (entry_in entries) at ∙ entry)
        ((both_true (length node.sites == 0) _ is).1)

    all : (node : Node) → is_entry_of entries node ≡ true → (node.context < context) ⊎ (node.context ≡ context) → Contains nodes node
    all node is (inl lt) = has.all node lt is
    all node is (inr at) = absurd (cc (none node is at))

entry_here : (entries : List (Option ℕ)) (context : ℕ) (d entry : Option ℕ) → context < length entries → get_or entries context d ≡ entry
    → entry_in entries context ≡ entry
entry_here entries context d entry lt is = rw (slice_get-get_or entries context d lt, is) refl

same_address : (n : ℕ) → nat_eq n n ≡ true
same_address n = grind (arith, nat_tests)

pub entry_added : (entries : List (Option ℕ)) (context address : ℕ) (d : Option ℕ) (sites : List ℕ) (before after : List Node)
    → context < length entries → get_or entries context d ≡ Some address
    → sites ≡ [] → HasEntries entries context before → Adds (record { context = context; sites = sites; address = address }) before after
    → HasEntries entries (context + 1) after
entry_added entries context address d sites before after lt at none has adds =
    let entry : entry_in entries context ≡ Some address = entry_here entries context d (Some address) lt at in
    more_entries entries context address before after has entry (ap (λ e. option_map_or (nat_eq address) e false) entry ∙ same_address address)
    (subst (λ (s : List ℕ). Adds (record { context = context; sites = s; address = address }) before after) none adds)

pub entry_missing : (entries : List (Option ℕ)) (context : ℕ) (d : Option ℕ) (nodes : List Node) → context < length entries → get_or entries context d ≡ None
    → HasEntries entries context nodes → HasEntries entries (context + 1) nodes
entry_missing entries context d nodes lt at has = same_entries entries context nodes has (entry_here entries context d None lt at)

pub entry_within : (entries : List (Option ℕ)) (context address : ℕ) → entry_in entries context ≡ Some address → context < length entries
entry_within entries context address is = at (slice_get entries context) refl is
  where
    at : (o : Option (Option ℕ)) → slice_get entries context ≡ o → option_and_then (λ entry. entry) o ≡ Some address → context < length entries
    at None none is = absurd (none-some address is)
    at (Some entry) some is = slice_get_within entries context entry some

-- ---- Targets of edges

only_edge : (edge other : Edge Node) → Contains (edge ∷ []) other → edge ≡ other
only_edge edge other has = at has.0 has.1 has.2
  where
    at : (k : ℕ) → k < 1 → get_or (edge ∷ []) k other ≡ other → edge ≡ other
    at zero lt is = is
    at (suc k) lt is = absurd (omega arith)

pub no_target : (edge : Edge Node) (nodes : List Node) → edge.to ≡ None → GrowsBy (edge ∷ []) nodes nodes
no_target edge nodes none = record {
  more = [];
  is = sym (append-nil nodes);
  are = All-nil _;
  has = λ node target. absurd (none-some node (sym none ∙ (ap (λ e. e.to) (only_edge edge target.edge target.stands) ∙ target.arrives)));
}

pub one_target : (edge : Edge Node) (node : Node) (before after : List Node) → edge.to ≡ Some node → Adds node before after → GrowsBy (edge ∷ []) before after
one_target edge node before after to adds = record {
  more = adds.more;
  is = adds.is;
  are = All-weaker (λ other. other ≡ node) (IsTargetOf (edge ∷ []))
      (λ other is. record { edge = edge; stands = Contains-push [] edge; arrives = to ∙ ap Some (sym is) }) adds.more adds.only;
  has = λ other target. subst (λ n. Contains after n)
      (same_some (sym to ∙ (ap (λ e. e.to) (only_edge edge target.edge target.stands) ∙ target.arrives))) adds.has;
}
  where
    some : {a b : Node} → Some a ≡ Some b → a ≡ b
    some is = cc

    only : (other : Edge Node) → Contains (edge ∷ []) other → edge ≡ other
    only other has = at has.0 has.1 has.2
      where
        at : (k : ℕ) → k < 1 → get_or (edge ∷ []) k other ≡ other → edge ≡ other
        at zero lt is = is
        at (suc k) lt is = absurd (omega arith)

pub no_targets : (edges : List (Edge Node)) (nodes : List Node) → edges ≡ [] → GrowsBy edges nodes nodes
no_targets edges nodes none = record {
  more = [];
  is = sym (append-nil nodes);
  are = All-nil _;
  has = λ node target. absurd (empty target.edge (subst (λ es. Contains es target.edge) none target.stands));
}
  where
    empty : (edge : Edge Node) → Contains [] edge → ⊥
    empty edge has = let lt : has.0 < 0 = has.1 in absurd (omega arith)

IsTargetOf-weaker : (edges others : List (Edge Node)) → ((edge : Edge Node) → Contains edges edge → Contains others edge) → (node : Node)
    → IsTargetOf edges node → IsTargetOf others node
IsTargetOf-weaker edges others into node target = record { edge = target.edge; stands = into target.edge target.stands; arrives = target.arrives }

-- one edge after others
pub more_targets : (edges : List (Edge Node)) (i : ℕ) (edge : Edge Node) (start before after : List Node) → i < length edges → edge ≡ get_or edges i edge
    → GrowsBy (take i edges) start before → GrowsBy (edge ∷ []) before after → GrowsBy (take (i + 1) edges) start after
more_targets edges i edge start before after lt at earlier last = subst (λ es. GrowsBy es start after) (sym step) (record {
  more = earlier.more ++ last.more;
  is = last.is ∙ (ap (λ xs. xs ++ last.more) earlier.is ∙ append_assoc start earlier.more last.more);
  are = All-append (IsTargetOf (take i edges ++ edge ∷ [])) earlier.more last.more
      (All-weaker (IsTargetOf (take i edges)) (IsTargetOf (take i edges ++ edge ∷ []))
      (IsTargetOf-weaker (take i edges) (take i edges ++ edge ∷ [])
      (λ e has. Contains-append_left (take i edges) (edge ∷ []) e has)) earlier.more earlier.are)
      (All-weaker (IsTargetOf (edge ∷ [])) (IsTargetOf (take i edges ++ edge ∷ []))
      (IsTargetOf-weaker (edge ∷ []) (take i edges ++ edge ∷ []) (λ e has. Contains-append_right (take i edges) (edge ∷ []) e has)) last.more last.are);
  has = λ node target. has node target (Contains-append_cases (take i edges) (edge ∷ []) target.edge target.stands);
})
  where
    step : take (i + 1) edges ≡ take i edges ++ edge ∷ []
    step = take_more edges i edge lt ∙ ap (λ y. take i edges ++ y ∷ []) (sym at)

    has : (node : Node) → (target : IsTargetOf (take i edges ++ edge ∷ []) node)
        → Contains (take i edges) target.edge ⊎ Contains (edge ∷ []) target.edge → Contains after node
    has node target (inl first) = subst (λ xs. Contains xs node) (sym last.is)
        (Contains-append_left before last.more node (earlier.has node (record { edge = target.edge; stands = first; arrives = target.arrives })))
    has node target (inr here) = last.has node (record { edge = target.edge; stands = here; arrives = target.arrives })

-- the nodes to which a node leads are the targets of the edges of one without a fault
pub goes_on : (program : Program) (node : Node) (edges : List (Edge Node)) (before after : List Node)
    → edges ≡ cond (is_none (fault_of program node)) (edges_of program.code node) [] → GrowsBy edges before after → GoesOn program node before after
goes_on program node edges before after is grows = record {
  more = grows.more;
  is = grows.is;
  led = All-weaker (IsTargetOf edges) (Leads program node) (λ next target. leads next target (fault_of program node) refl) grows.more grows.are;
  has = λ next led. grows.has next (target next led);
}
  where
    leads : (next : Node) → IsTargetOf edges next → (fault : Option CodeKind) → fault_of program node ≡ fault → Leads program node next
    leads next target None none =
        let stands : Contains (edges_of program.code node) target.edge = subst (λ es. Contains es target.edge)
        (is ∙ ap (λ f. cond (is_none f) (edges_of program.code node) []) none) target.stands in
        let at = at-Contains (edges_of program.code node) target.edge stands in
        record { faultless = none; number = at.0; edge = target.edge; leaves = at.2; arrives = target.arrives }
    leads next target (Some kind) some =
        let stands : Contains [] target.edge = subst (λ es. Contains es target.edge)
        (is ∙ ap (λ f. cond (is_none f) (edges_of program.code node) []) some) target.stands in
        let lt : stands.0 < 0 = stands.1 in absurd (omega arith)

    target : (next : Node) → Leads program node next → IsTargetOf edges next
    target next led = record {
      edge = led.edge;
      stands = subst (λ es. Contains es led.edge) (sym (is ∙ ap (λ f. cond (is_none f) (edges_of program.code node) []) led.faultless))
          (Contains-at _ led.number led.edge led.leaves);
      arrives = led.arrives;
    }

-- ---- The search

pub search_begins : (program : Program) (end : ℕ) (nodes : List Node)
    → ((context : ℕ) (address : ℕ) → entry_in program.entries context ≡ Some address → context < end)
    → HasEntries program.entries end nodes → IsSearch program 0 nodes
search_begins program end found within has = record {
  reached = All-weaker (λ node. is_entry_of program.entries node ≡ true) (IsNode program) (λ node is. at_entry node is) found has.are;
  entries = λ node is. has.all node (below node is (entry_in program.entries node.context) refl) is;
  closed = λ place node next lt at led. absurd (omega arith);
}
  where
    below : (node : Node) → is_entry_of program.entries node ≡ true → (entry : Option ℕ) → entry_in program.entries node.context ≡ entry → node.context < end
    below node is (Some address) at = within node.context address at
    below node is None at = absurd (cc (none node is at))
      where
        none : (node : Node) → is_entry_of program.entries node ≡ true → entry_in program.entries node.context ≡ None → false ≡ true
        none node is at = subst (λ e. option_map_or (nat_eq node.address) e false ≡ true) at ((both_true (length node.sites == 0) _ is).1)

-- one more node was left along its edges
pub search_goes_on : (program : Program) (place : ℕ) (node : Node) (before after : List Node) → IsSearch program place before
    → slice_get before place ≡ Some node
    → GoesOn program node before after → IsSearch program (place + 1) after
search_goes_on program place node before after known at goes = record {
  reached = subst (λ xs. All (IsNode program) xs) (sym goes.is)
      (All-append (IsNode program) before goes.more known.reached
      (All-weaker (Leads program node) (IsNode program) (λ next led. along node next here led) goes.more goes.led));
  entries = λ entry is. kept entry (known.entries entry is);
  closed = λ k other next lt stands led. closed k other next stands led (below_or_at k place lt);
}
  where
    here : IsNode program node
    here = All-contains (IsNode program) before node known.reached (Contains-at before place node at)

    kept : (other : Node) → Contains before other → Contains after other
    kept other has = subst (λ xs. Contains xs other) (sym goes.is) (Contains-append_left before goes.more other has)

    within : place < length before
    within = slice_get_within before place node at

    earlier : (k : ℕ) (other : Node) → k < length before → slice_get after k ≡ Some other → slice_get before k ≡ Some other
    earlier k other lt stands =
        slice_get-get_or before k other lt ∙ ap Some (sym (get_or_append_left before goes.more other k lt)
        ∙ (ap (λ xs. get_or xs k other) (sym goes.is) ∙ get_or_from_slice_get after k other other stands))

    closed : (k : ℕ) (other next : Node) → slice_get after k ≡ Some other → Leads program other next → (k < place) ⊎ (k ≡ place) → Contains after next
    closed k other next stands led (inl lt) = kept next (known.closed k other next lt (earlier k other (omega (arith, within, lt)) stands) led)
    closed k other next stands led (inr is) = goes.has next (subst (λ n. Leads program n next) (same k other stands is) led)
      where
        same : (k : ℕ) (other : Node) → slice_get after k ≡ Some other → k ≡ place → other ≡ node
        same k other stands is =
            same_some (sym (earlier k other (omega (arith, within, is)) stands) ∙ (ap (slice_get before) is ∙ at))

pub search_goes_on_at : (program : Program) (place : ℕ) (before after : List Node) → IsSearch program place before → place < length before
    → IfSome (slice_get before place) (λ node. GoesOn program node before after) → IsSearch program (place + 1) after
search_goes_on_at program place before after known lt goes = at (slice_get before place) refl goes
  where
    at : (o : Option Node) → slice_get before place ≡ o → IfSome o (λ node. GoesOn program node before after) → IsSearch program (place + 1) after
    at (Some node) is goes = search_goes_on program place node before after known is goes
    at None is goes = absurd (omega (arith, past before place is))
      where
        past : (xs : List Node) (i : ℕ) → slice_get xs i ≡ None → length xs ≤ i
        past [] i none = omega arith
        past (x ∷ xs) zero none = absurd (none-some x (sym none))
        past (x ∷ xs) (suc i) none = omega (arith, past xs i none)

-- where all of them were left along their edges, they are all that are reached
all_reached : (program : Program) (end : ℕ) (found : List Node) → IsSearch program end found → length found ≤ end → (node : Node)
    → IsNode program node → Contains found node
all_reached program end found known few node (at_entry _ is) = known.entries node is
all_reached program end found known few next (along node _ before led) =
    let has = at-Contains found node (all_reached program end found known few node before) in
    let within : has.0 < length found = has.1 in
    known.closed has.0 node next (omega arith) has.2 led

pub reaches : (program : Program) (found ordered : List Node) → IsSearched program found → AreOrdered found ordered → Reaches program ordered
reaches program found ordered searched same = record {
  are = record {
    order = same.order;
    reached = All-from_contains
        (λ node has. All-contains (IsNode program) found node searched.search.reached (same.from node has));
  };
  all = λ few node is. same.into node (all_reached program searched.end found searched.search (searched.done (subst (λ n. n ≤ 65535) same.count few)) node is);
}
  where
    All-from_contains : ((node : Node) → Contains ordered node → IsNode program node) → All (IsNode program) ordered
    All-from_contains each = λ k d lt. each (get_or ordered k d) (Contains-get_or ordered k d lt)
