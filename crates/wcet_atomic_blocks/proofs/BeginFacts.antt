-- Which beginnings there are, and that each of them stands in the list.
use Rattle.std.proofs.Common.{◌≡◌, ℕ, suc, zero, ◌+◌, ◌<◌, ◌⊎◌, inl, inr, Bool, true, false, cond, eqb, List, [], ◌∷◌, length, get_or, map, arith, ap, ◌∙◌, subst, sym, refl, Option, Some, None}
use Rattle.std.specs.Prelude.{All, Contains, slice_get, is_some, filter_map, option_map, option_and_then, IfSome, IsSomeAnd}
use Rattle.std.specs.List.{range_with_len}
use Rattle.std.specs.Option.{option_map_or}
use Rattle.std.proofs.lemmas.Bool.{eq-eqb}
use Rattle.std.proofs.lemmas.List.FromFn.{length-range_with_len, get_or-range_with_len}
use Rattle.std.proofs.lemmas.List.Elements.{All-filter, Contains-get_or, Contains-append_left, Contains-append_right, Contains-append_cases, Contains-push_cases}
use Rattle.std.proofs.lemmas.Option.{slice_get-get_or, slice_get_within, get_or_from_slice_get, slice_get-map, option_and_then_some}
use Rattle.flow_graph.specs.declared.edge.Edge.{Edge}
use Rattle.flow_graph.specs.declared.flow.Flow.{Flow}
use Rattle.flow_graph.specs.declared.flow.Leaving.{Leaving}
use Rattle.flow_graph.specs.declared.node.Node.{Node}
use Rattle.wcet_atomic_blocks.specs.declared.block.Beginning.{Beginning}
use Rattle.wcet_atomic_blocks.specs.declared.block.Block.{Block}
use Rattle.wcet_atomic_blocks.specs.Blocks.{is_of, is_service, onward, successor, HasEdge, services_of, at_entry, behind, beginning_behind, beginnings_of, beginnings_from, beginnings, IsWhole, IsEntryBlock, IsAfter}
use Rattle.wcet_atomic_blocks.specs.Working.Tables.{IsBeginning, entry, service, AreEntriesBelow, IsFound, AreAftersBelow}

-- ---- Members of lists

contains_one : {X : Type 0} (x y : X) → Contains (x ∷ []) y → x ≡ y
contains_one x y is = elim (Contains-push_cases [] x y is) [ inl none ↦ absurd (omega (arith, none.1)) | inr same ↦ same ]

contains_head : {X : Type 0} (x : X) (xs : List X) → Contains (x ∷ xs) x
contains_head x xs = (0, omega arith, refl)

contains_tail : {X : Type 0} (x : X) (xs : List X) (y : X) → Contains xs y → Contains (x ∷ xs) y
contains_tail x xs y is = Contains-append_right (x ∷ []) xs y is

range_below : (a n x : ℕ) → Contains (range_with_len a n) x → x < a + n
range_below a n x is =
    let long = length-range_with_len a n in
    let there = get_or-range_with_len a n is.0 x (let b = is.1 in omega (arith, long, b)) in
    let same = is.2 in let below = is.1 in omega (arith, there, same, below, long)

range_has : (n x : ℕ) → x < n → Contains (range_with_len 0 n) x
range_has n x below =
    let long = length-range_with_len 0 n in let there = get_or-range_with_len 0 n x x below in
    (x, omega (arith, long), omega (arith, there))

filter_map_has : {Y : Type 0} (f : ℕ → Option Y) (xs : List ℕ) (x : ℕ) (y : Y) → Contains xs x → f x ≡ Some y → Contains (filter_map f xs) y
filter_map_has f [] x y is gives = absurd (let b = is.1 in omega (arith, b))
filter_map_has f (z ∷ xs) x y is gives = go (λ more. filter_map_has f xs x y more gives) (f z) refl (Contains-append_cases (z ∷ []) xs x is)
  where
    go : (Contains xs x → Contains (filter_map f xs) y) → (o : Option _) → f z ≡ o → Contains (z ∷ []) x ⊎ Contains xs x → Contains (filter_map f (z ∷ xs)) y
    go rest None e (inl one) = absurd (let s = contains_one z x one in let g : f z ≡ Some y = ap f s ∙ gives in cc)
    go rest None e (inr more) = rw e (rest more)
    go rest (Some w) e (inl one) = let s = contains_one z x one in let g : f z ≡ Some y = ap f s ∙ gives in let h : w ≡ y = cc in
        rw e (subst (λ v. Contains (v ∷ filter_map f xs) y) (sym h) (contains_head y (filter_map f xs)))
    go rest (Some w) e (inr more) = rw e (contains_tail w (filter_map f xs) y (rest more))

-- what gives a member of a filtered list
record Origin {Y : Type 0} (f : ℕ → Option Y) (xs : List ℕ) (y : Y) : Type 0 where
  from : ℕ
  stands : Contains xs from
  gives : f from ≡ Some y

filter_map_of : {Y : Type 0} (f : ℕ → Option Y) (xs : List ℕ) (y : Y) → Contains (filter_map f xs) y → Origin f xs y
filter_map_of f [] y is = absurd (let b = is.1 in omega (arith, b))
filter_map_of f (z ∷ xs) y is = go (filter_map_of f xs y) (f z) refl
  where
    later : Origin f xs y → Origin f (z ∷ xs) y
    later origin = record { from = origin.from; stands = contains_tail z xs origin.from origin.stands; gives = origin.gives }

    go : (Contains (filter_map f xs) y → Origin f xs y) → (o : Option _) → f z ≡ o → Origin f (z ∷ xs) y
    go rest None e = later (rest (rw e at is))
    go rest (Some w) e = elim (Contains-append_cases (w ∷ []) (filter_map f xs) y (rw e at is)) [
      | inl one ↦ record { from = z; stands = contains_head z xs; gives = e ∙ ap Some (contains_one w y one) }
      | inr more ↦ later (rest more)
    ]

-- ---- Services

pub services_below : (flow : Flow) (services : List ℕ) → services ≡ services_of flow → All (λ s. s < length flow.nodes) services
services_below flow services is =
    subst (λ (xs : List ℕ). All (λ s. s < length flow.nodes) xs) (sym is)
    (All-filter (is_service flow) (λ s. s < length flow.nodes) (range_with_len 0 (length flow.nodes))
    (λ k d inside. let b = range_below 0 (length flow.nodes) (get_or (range_with_len 0 (length flow.nodes)) k d)
    (Contains-get_or (range_with_len 0 (length flow.nodes)) k d inside) in omega (arith, b)))

some_if : {X : Type 0} (b : Bool) (o : Option X) (x : X) → cond b o None ≡ Some x → (b ≡ true) × (o ≡ Some x)
some_if true o x e = (refl, e)
some_if false o x e = absurd cc

-- what is behind a service that goes on
pub successor_edge : (flow : Flow) (node next : ℕ) → successor flow node ≡ Some next → (is_service flow node ≡ true) × HasEdge flow node next
successor_edge flow node next to =
    option_and_then_some onward (slice_get flow.leaving node) next to (λ leaving at goes.
    let both = some_if (is_some leaving.service) (option_and_then (λ (edge : Edge ℕ). edge.to) (slice_get leaving.edges 0)) next goes in
    option_and_then_some (λ (edge : Edge ℕ). edge.to) (slice_get leaving.edges 0) next both.1 (λ edge there leads. (
      ap (λ o. option_map_or (λ (l : Leaving). is_some l.service) o false) at ∙ both.0,
      record { number = 0; edge = edge; leaves = ap (λ o. slice_get (option_map_or (λ (l : Leaving). l.edges) o []) 0) at ∙ there; arrives = leads },
    )))

-- ---- Each beginning

shifts : (flow : Flow) (context entry_node : ℕ) (entries : List ℕ) (b : Beginning) → IsBeginning flow (suc context) entries b
    → IsBeginning flow context (entry_node ∷ entries) b
shifts flow context entry_node entries b (entry place e at is) =
    entry (suc place) e at (is ∙ ap (λ c. at_entry c e) (omega arith))
shifts flow context entry_node entries b (service place node next inside exists of goes is) =
    service (suc place) node next (omega (arith, inside)) exists
    (subst (λ (c : ℕ). is_of flow c node ≡ true) (omega arith) of) goes (is ∙ ap (λ c. behind c node next) (omega arith))

-- what a node gives
given : (flow : Flow) (context node : ℕ) (b : Beginning) (of : Bool) (o : Option ℕ) → cond of (option_map (behind context node) o) None ≡ Some b
    → (next : ℕ) × (of ≡ true) × (o ≡ Some next) × (b ≡ behind context node next)
given flow context node b true (Some next) gives = (next, refl, refl, cc)
given flow context node b true None gives = absurd cc
given flow context node b false o gives = absurd cc

pub each_beginning : (flow : Flow) (context : ℕ) (entries : List ℕ) (b : Beginning) → Contains (beginnings_from flow context entries) b
    → IsBeginning flow context entries b
each_beginning flow context [] b is = absurd (let below = is.1 in omega (arith, below))
each_beginning flow context (e ∷ entries) b is =
    elim (Contains-append_cases (beginnings_of flow context e) (beginnings_from flow (suc context) entries) b is) [
      | inl mine ↦ elim (Contains-append_cases (at_entry context e ∷ []) (filter_map (beginning_behind flow context) (range_with_len 0 (length flow.nodes))) b
          mine) [
            | inl one ↦ entry 0 e refl (sym (contains_one (at_entry context e) b one) ∙ ap (λ c. at_entry c e) (omega arith))
            | inr more ↦ from_node (filter_map_of (beginning_behind flow context) (range_with_len 0 (length flow.nodes)) b more)
          ]
      | inr later ↦ shifts flow context e entries b (each_beginning flow (suc context) entries b later)
    ]
  where
    from_node : Origin (beginning_behind flow context) (range_with_len 0 (length flow.nodes)) b → IsBeginning flow context (e ∷ entries) b
    from_node origin =
        let is = given flow context origin.from b (is_of flow context origin.from) (successor flow origin.from) origin.gives in
        let below = range_below 0 (length flow.nodes) origin.from origin.stands in
        service 0 origin.from is.0 (omega arith) (omega (arith, below))
        (subst (λ (c : ℕ). is_of flow c origin.from ≡ true) (omega arith) is.1) is.2 (is.3 ∙ ap (λ c. behind c origin.from is.0) (omega arith))

-- ---- Each of them stands there

pub entry_stands : (flow : Flow) (context place : ℕ) (entries : List ℕ) (e : ℕ) → slice_get entries place ≡ Some e
    → Contains (beginnings_from flow context entries) (at_entry (context + place) e)
entry_stands flow context place [] e at = absurd cc
entry_stands flow context zero (first ∷ entries) e at =
    let same : first ≡ e = cc in
    Contains-append_left (beginnings_of flow context first) (beginnings_from flow (suc context) entries) (at_entry (context + 0) e)
    (subst (λ (b : Beginning). Contains (beginnings_of flow context first) b) (ap (at_entry context) same ∙ ap (λ c. at_entry c e) (omega arith))
    (contains_head (at_entry context first) _))
entry_stands flow context (suc place) (first ∷ entries) e at =
    Contains-append_right (beginnings_of flow context first) (beginnings_from flow (suc context) entries) (at_entry (context + suc place) e)
    (subst (λ (c : ℕ). Contains (beginnings_from flow (suc context) entries) (at_entry c e)) (omega arith) (entry_stands flow (suc context) place entries e at))

pub service_stands : (flow : Flow) (context place : ℕ) (entries : List ℕ) (node next : ℕ) → place < length entries → node < length flow.nodes
    → is_of flow (context + place) node ≡ true → successor flow node ≡ Some next
    → Contains (beginnings_from flow context entries) (behind (context + place) node next)
service_stands flow context place [] node next inside exists of goes = absurd (omega arith)
service_stands flow context zero (first ∷ entries) node next inside exists of goes =
    let mine : is_of flow context node ≡ true = subst (λ (c : ℕ). is_of flow c node ≡ true) (omega arith) of in
    let gives : beginning_behind flow context node ≡ Some (behind context node next) =
    ap (λ b. cond b (option_map (behind context node) (successor flow node)) None) mine ∙ ap (option_map (behind context node)) goes in
    Contains-append_left (beginnings_of flow context first) (beginnings_from flow (suc context) entries) (behind (context + 0) node next)
    (contains_tail (at_entry context first) _ (behind (context + 0) node next)
    (subst (λ (c : ℕ). Contains (filter_map (beginning_behind flow context) (range_with_len 0 (length flow.nodes))) (behind c node next)) (omega arith)
    (filter_map_has (beginning_behind flow context) (range_with_len 0 (length flow.nodes)) node (behind context node next)
    (range_has (length flow.nodes) node exists) gives)))
service_stands flow context (suc place) (first ∷ entries) node next inside exists of goes =
    Contains-append_right (beginnings_of flow context first) (beginnings_from flow (suc context) entries) (behind (context + suc place) node next)
    (subst (λ (c : ℕ). Contains (beginnings_from flow (suc context) entries) (behind c node next)) (omega arith)
    (service_stands flow (suc context) place entries node next (omega arith) exists (subst (λ (c : ℕ). is_of flow c node ≡ true) (omega arith) of) goes))

-- ---- What the tables ask

entry_below : (entries : List ℕ) (place node count : ℕ) → slice_get entries place ≡ Some node → All (λ e. e < count) entries → node < count
entry_below entries place node count at each =
    subst (λ (n : ℕ). n < count) (get_or_from_slice_get entries place node node at) (each place node (slice_get_within entries place node at))

-- a fact of each beginning is one of all in the list
each_of : (flow : Flow) (entries : List ℕ) (P : Beginning → Type 0) → ((b : Beginning) → IsBeginning flow 0 entries b → P b) → All P (beginnings flow entries)
each_of flow entries P each k d inside =
    each (get_or (beginnings flow entries) k d) (each_beginning flow 0 entries (get_or (beginnings flow entries) k d)
    (Contains-get_or (beginnings flow entries) k d inside))

pub firsts_exist : (flow : Flow) (entries : List ℕ) → IsWhole flow entries → All (λ b. b.first < length flow.nodes) (beginnings flow entries)
firsts_exist flow entries whole = each_of flow entries (λ b. b.first < length flow.nodes) go
  where
    go : (b : Beginning) → IsBeginning flow 0 entries b → b.first < length flow.nodes
    go b (entry place node at is) =
        subst (λ (c : Beginning). c.first < length flow.nodes) (sym is) (entry_below entries place node (length flow.nodes) at whole.entry_nodes)
    go b (service place node next inside exists of goes is) =
        subst (λ (c : Beginning). c.first < length flow.nodes) (sym is) (whole.edges node next (successor_edge flow node next goes).1)

pub owners_exist : (flow : Flow) (entries : List ℕ) → All (λ b. b.owner < length entries) (beginnings flow entries)
owners_exist flow entries = each_of flow entries (λ b. b.owner < length entries) go
  where
    go : (b : Beginning) → IsBeginning flow 0 entries b → b.owner < length entries
    go b (entry place node at is) =
        let inside = slice_get_within entries place node at in
        subst (λ (c : Beginning). c.owner < length entries) (sym is) (omega (arith, inside))
    go b (service place node next inside exists of goes is) =
        subst (λ (c : Beginning). c.owner < length entries) (sym is) (omega (arith, inside))

pub afters_exist : (flow : Flow) (entries : List ℕ) → All (λ b. IfSome b.after (λ node. node < length flow.nodes)) (beginnings flow entries)
afters_exist flow entries = each_of flow entries (λ b. IfSome b.after (λ node. node < length flow.nodes)) go
  where
    go : (b : Beginning) → IsBeginning flow 0 entries b → IfSome b.after (λ node. node < length flow.nodes)
    go b (entry place node at is) = subst (λ (c : Beginning). IfSome c.after (λ node. node < length flow.nodes)) (sym is) tt
    go b (service place node next inside exists of goes is) = subst (λ (c : Beginning). IfSome c.after (λ node. node < length flow.nodes)) (sym is) exists

-- ---- What the tables say

block_there : (blocks : List Block) (begins : List Beginning) (number : ℕ) (b : Beginning) (P : Block → Type 0) → map (λ block. block.begin) blocks ≡ begins
    → slice_get begins number ≡ Some b → ((block : Block) → block.begin ≡ b → P block) → IsSomeAnd (slice_get blocks number) P
block_there blocks begins number b P are at each = go (slice_get blocks number) refl
  where
    go : (o : Option Block) → slice_get blocks number ≡ o → IsSomeAnd o P
    go (Some block) e = each block (let f = ap (λ bs. slice_get bs number) are ∙ at in let g = sym (slice_get-map (λ (c : Block). c.begin) blocks number) ∙ f in
        let h : option_map (λ (c : Block). c.begin) (Some block) ≡ Some b = ap (option_map (λ (c : Block). c.begin)) (sym e) ∙ g in cc)
    go None e = absurd (let f = ap (λ bs. slice_get bs number) are ∙ at in let g = sym (slice_get-map (λ (c : Block). c.begin) blocks number) ∙ f in
        let h : None ≡ Some b = ap (option_map (λ (c : Block). c.begin)) (sym e) ∙ g in cc)

some_and : {X : Type 0} (o : Option X) {P Q : X → Type 0} → ((x : X) → P x → Q x) → IsSomeAnd o P → IsSomeAnd o Q
some_and (Some x) each p = each x p
some_and None each p = p

pub entries_named : (flow : Flow) (entries : List ℕ) (blocks : List Block) (begins : List Beginning) (table : List ℕ)
    → map (λ block. block.begin) blocks ≡ begins
    → begins ≡ beginnings flow entries → AreEntriesBelow begins (length begins) (length entries) table → (context : ℕ) → context < length entries
    → IsSomeAnd (slice_get table context) (λ number. IsSomeAnd (slice_get blocks number) (IsEntryBlock context))
entries_named flow entries blocks begins table are is named context inside =
    let node = get_or entries context 0 in
    let at : slice_get entries context ≡ Some node = slice_get-get_or entries context 0 inside in
    let stands : Contains begins (at_entry context node) =
    subst (λ (bs : List Beginning). Contains bs (at_entry context node)) (sym is)
    (subst (λ (c : ℕ). Contains (beginnings flow entries) (at_entry c node)) (omega arith) (entry_stands flow 0 context entries node at)) in
    let there : slice_get begins stands.0 ≡ Some (at_entry context node) = slice_get-get_or begins stands.0 (at_entry context node) stands.1
    ∙ ap Some stands.2 in
    some_and (slice_get table context)
    (λ number entry_at. block_there blocks begins number entry_at.begin (IsEntryBlock context) are entry_at.stands
    (λ block same. record { owner = ap (λ (b : Beginning). b.owner) same ∙ entry_at.owner; after = ap (λ (b : Beginning). b.after) same ∙ entry_at.after }))
    (named.each stands.0 context stands.1 (record { begin = at_entry context node; stands = there; owner = refl; after = refl }))

pub afters_named : (flow : Flow) (entries : List ℕ) (blocks : List Block) (begins : List Beginning) (table : List (Option ℕ)) → IsWhole flow entries
    → map (λ block. block.begin) blocks ≡ begins → begins ≡ beginnings flow entries → AreAftersBelow begins (length begins) (length flow.nodes) table
    → (node : ℕ) → node < length flow.nodes → IsSomeAnd (slice_get table node) (IsAfter flow blocks node)
afters_named flow entries blocks begins table whole are is named node inside = some_and (slice_get table node) each (named.each node inside)
  where
    none : IsFound begins (length begins) node None → (o : Option ℕ) → successor flow node ≡ o → successor flow node ≡ None
    none found None e = e
    none found (Some next) e = absurd (
        let n : Node = get_or flow.nodes node (record { context = 0; sites = []; address = 0 }) in
        let at : slice_get flow.nodes node ≡ Some n = slice_get-get_or flow.nodes node (record { context = 0; sites = []; address = 0 }) inside in
        let context : n.context < length entries = whole.contexts node (record { context = 0; sites = []; address = 0 }) inside in
        let of : is_of flow n.context node ≡ true =
        ap (λ o. option_map_or (λ (m : Node). eqb m.context n.context) o false) at ∙ eq-eqb n.context n.context refl in
        let stands : Contains begins (behind n.context node next) =
        subst (λ (bs : List Beginning). Contains bs (behind n.context node next)) (sym is)
        (subst (λ (c : ℕ). Contains (beginnings flow entries) (behind c node next)) (omega arith)
        (service_stands flow 0 n.context entries node next context inside (subst (λ (c : ℕ). is_of flow c node ≡ true) (omega arith) of) e)) in
        found stands.0 stands.1 (record {
          begin = behind n.context node next;
          stands = slice_get-get_or begins stands.0 (behind n.context node next) stands.1
              ∙ ap Some stands.2;
          after = refl;
        }))

    each : (o : Option ℕ) → IsFound begins (length begins) node o → IsAfter flow blocks node o
    each None found = none found (successor flow node) refl
    each (Some number) found = block_there blocks begins number found.begin (λ block. block.begin.after ≡ Some node) are found.stands
        (λ block same. ap (λ (b : Beginning). b.after) same ∙ found.after)
