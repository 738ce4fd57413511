-- Tests of worked plants: the nodes are those that are reached, and the blocks have the nodes that they should.
use Rattle.std.proofs.Common.{◌≡◌, ℕ, zero, suc, ◌-◌, ◌<◌, ◌≤◌, ◌/◌, ◌%◌, Bool, true, false, not, ◌||◌, List, [], ◌∷◌, All, Contains, length, ◌^◌, Option, Some, None, refl, sym, ap, ◌∙◌, subst, arith, inl, inr, leb, ◌⊎◌, lit<}
use Rattle.std.specs.Prelude.{slice_index, nat_eq, ◌==◌}
use Rattle.std.specs.Int.{bit_at}
use Rattle.std.specs.List.{list_any, list_all, range_with_len, AllByRecursion}
use Rattle.std.specs.Option.{option_map_or}
use Rattle.std.specs.Ordering.{is_eq}
use Rattle.std.specs.declared.cmp.Ordering.{Ordering}
use Rattle.std.specs.declared.cmp.Ordering.TheVariants.{Less, Equal, Greater}
use Rattle.std.proofs.lemmas.Bool.{and_parts, eqb-true}
use Rattle.std.proofs.lemmas.Bool.Decides.{leb_tells}
use Rattle.std.proofs.lemmas.List.Elements.{All-contains, All-from_recursion}
use Rattle.std.proofs.lemmas.Map.Views.{Contains-from_any}
use Rattle.std.proofs.lemmas.Nat.Bits.{bit_at-zero}
use Rattle.flow_graph.specs.declared.edge.Edge.{Edge}
use Rattle.flow_graph.specs.declared.flow.Flow.{Flow}
use Rattle.flow_graph.specs.declared.node.Node.{Node}
use Rattle.flow_graph.specs.Faults.{entry_in, is_entry, Leads, IsNode, entry, along}
use Rattle.flow_graph.specs.Graph.{Program, node_cmp, edges_of}
use Rattle.flow_graph.proofs.Nodes.{node_exact, Contains-at}
use Rattle.flow_graph.proofs.Reaching.{entry_within}
use Rattle.wcet_atomic_blocks.specs.Blocks.{is_service, edges_at, IsInBlock, begins, along as onward}
use Rattle.wcet_atomic_blocks.specs.NodeSets.{holds}
use Rattle.activation_windows.proofs.Samples.Testing.{passes_at, in_range}
use Rattle.activation_windows.specs.Samples.Words.{bytes_of}

-- ---- Nodes

abbrev pub same_node : Node → Node → Bool
same_node a b = is_eq (node_cmp a b)

equal_from : (o : Ordering) → is_eq o ≡ true → o ≡ Equal
equal_from Less is = absurd cc
equal_from Equal is = refl
equal_from Greater is = absurd cc

same_nodes_are : (a b : Node) → same_node a b ≡ true → a ≡ b
same_nodes_are a b is = node_exact a b (equal_from (node_cmp a b) is)

abbrev node : ℕ → List ℕ → ℕ → Node
node context sites address = record { context = context; sites = sites; address = address }

no_sites : (sites : List ℕ) → (length sites == 0) ≡ true → sites ≡ []
no_sites [] is = refl
no_sites (site ∷ sites) is = absurd (let e : suc (length sites) ≡ 0 = eqb-true (suc (length sites)) 0 is in omega arith)

node_is : (n : Node) (address : ℕ) → n.sites ≡ [] → n.address ≡ address → node n.context [] address ≡ n
node_is n address none same = ap (λ s. node n.context s address) (sym none) ∙ ap (λ a. node n.context n.sites a) (sym same)

abbrev pub has_entry : Program → List Node → ℕ → Bool
has_entry program nodes context =
    option_map_or (λ address. list_any (same_node (node context [] address)) nodes) (entry_in program.entries context) true

abbrev pub has_entries : Program → List Node → Bool
has_entries program nodes = list_all (has_entry program nodes) (range_with_len 0 (length program.entries))

entry_among : (program : Program) (nodes : List Node) → has_entries program nodes ≡ true → (n : Node) → is_entry program n ≡ true → Contains nodes n
entry_among program nodes pass n is =
    let parts = and_parts (length n.sites == 0) (option_map_or (nat_eq n.address) (entry_in program.entries n.context) false) is in
    at (entry_in program.entries n.context) refl (no_sites n.sites parts.0) parts.1
  where
    at : (o : Option ℕ) → entry_in program.entries n.context ≡ o → n.sites ≡ [] → option_map_or (nat_eq n.address) o false ≡ true → Contains nodes n
    at None none empty is = absurd cc
    at (Some a) some empty is =
        let found : list_any (same_node (node n.context [] a)) nodes ≡ true =
        subst (λ o. option_map_or (λ address. list_any (same_node (node n.context [] address)) nodes) o true ≡ true) some
        (passes_at (has_entry program nodes) (range_with_len 0 (length program.entries)) n.context pass
        (in_range (length program.entries) n.context (entry_within program.entries n.context a some))) in
        subst (λ m. Contains nodes m) (node_is n a empty (eqb-true n.address a is))
        (Contains-from_any same_nodes_are (node n.context [] a) nodes found)

abbrev pub leads_among : List Node → Edge Node → Bool
leads_among nodes edge = option_map_or (λ next. list_any (same_node next) nodes) edge.to true

abbrev pub keeps_edges : Program → List Node → Node → Bool
keeps_edges program nodes n = list_all (leads_among nodes) (edges_of program.code n)

along_among : (program : Program) (nodes : List Node) → list_all (keeps_edges program nodes) nodes ≡ true → (n next : Node)
    → Contains nodes n → Leads program n next → Contains nodes next
along_among program nodes pass n next has leads =
    let passes : leads_among nodes leads.edge ≡ true = passes_at (leads_among nodes) (edges_of program.code n) leads.edge
    (passes_at (keeps_edges program nodes) nodes n pass has) (Contains-at (edges_of program.code n) leads.number leads.edge leads.leaves) in
    Contains-from_any same_nodes_are next nodes
    (subst (λ o. option_map_or (λ m. list_any (same_node m) nodes) o true ≡ true) leads.arrives passes)

pub all_among : (program : Program) (nodes : List Node) → has_entries program nodes ≡ true → list_all (keeps_edges program nodes) nodes ≡ true
    → (n : Node) → IsNode program n → Contains nodes n
all_among program nodes begin pass n (entry _ is) = entry_among program nodes begin n is
all_among program nodes begin pass next (along n _ reached leads) =
    along_among program nodes pass n next (all_among program nodes begin pass n reached) leads

-- ---- Blocks of at most 64 nodes

holds_small : (word n : ℕ) → holds (word ∷ []) n ≡ true → n < 64
holds_small word n is = by (leb_tells 64 n)
  where
    past : (i : ℕ) → n / 64 ≡ suc i → holds (word ∷ []) n ≡ false
    past i e =
        ap (λ q. bit_at (slice_index (word ∷ []) q) (n % 64) == 1) e ∙ ap (λ b. b == 1) (bit_at-zero (n % 64))

    by : ((leb 64 n ≡ true) × (64 ≤ n)) ⊎ ((leb 64 n ≡ false) × (n < 64)) → n < 64
    by (inl high) = absurd (let no : true ≡ false = sym is ∙ past (n / 64 - 1) (let h = high.1 in omega arith) in cc)
    by (inr low) = low.1

abbrev pub is_member : List ℕ → List ℕ → ℕ → Bool
is_member set members n = not (holds set n) || list_any (nat_eq n) members

pub members_are : (flow : Flow) (word first : ℕ) (members : List ℕ) → list_all (is_member (word ∷ []) members) (range_with_len 0 64) ≡ true
    → All (λ n. IsInBlock flow first n) members → (n : ℕ) → holds (word ∷ []) n ≡ true → IsInBlock flow first n
members_are flow word first members pass each n is =
    let passes : is_member (word ∷ []) members n ≡ true =
    passes_at (is_member (word ∷ []) members) (range_with_len 0 64) n pass (in_range 64 n (holds_small word n is)) in
    let found : list_any (nat_eq n) members ≡ true = subst (λ b. (not b || list_any (nat_eq n) members) ≡ true) is passes in
    All-contains (λ m. IsInBlock flow first m) members n each (Contains-from_any eqb-true n members found)

abbrev pub goes_within : List ℕ → Edge ℕ → Bool
goes_within set edge = option_map_or (holds set) edge.to true

abbrev pub stays_within : Flow → List ℕ → ℕ → Bool
stays_within flow set n = not (holds set n) || (is_service flow n || list_all (goes_within set) (edges_at flow n))

pub all_held : (flow : Flow) (word first : ℕ) → holds (word ∷ []) first ≡ true → list_all (stays_within flow (word ∷ [])) (range_with_len 0 64) ≡ true
    → (n : ℕ) → IsInBlock flow first n → holds (word ∷ []) n ≡ true
all_held flow word first begin pass n (begins _ same) = subst (λ m. holds (word ∷ []) m ≡ true) (sym same) begin
all_held flow word first begin pass next (onward n _ inside instruction edge) =
    let held : holds (word ∷ []) n ≡ true = all_held flow word first begin pass n inside in
    let passes : stays_within flow (word ∷ []) n ≡ true =
    passes_at (stays_within flow (word ∷ [])) (range_with_len 0 64) n pass (in_range 64 n (holds_small word n held)) in
    let edges : (is_service flow n || list_all (goes_within (word ∷ [])) (edges_at flow n)) ≡ true =
    subst (λ b. (not b || (is_service flow n || list_all (goes_within (word ∷ [])) (edges_at flow n))) ≡ true) held passes in
    let each : list_all (goes_within (word ∷ [])) (edges_at flow n) ≡ true =
    subst (λ b. (b || list_all (goes_within (word ∷ [])) (edges_at flow n)) ≡ true) instruction edges in
    subst (λ o. option_map_or (holds (word ∷ [])) o true ≡ true) edge.arrives
    (passes_at (goes_within (word ∷ [])) (edges_at flow n) edge.edge each (Contains-at (edges_at flow n) edge.number edge.edge edge.leaves))

-- ---- Numbers below a number, and bytes

pub below : (P : ℕ → Type 0) (n : ℕ) → AllByRecursion P (range_with_len 0 n) → (k : ℕ) → k < n → P k
below P n each k lt = All-contains P (range_with_len 0 n) k (All-from_recursion P (range_with_len 0 n) each) (in_range n k lt)

pub bytes_fit : (words : List ℕ) (k : ℕ) → slice_index (bytes_of words) k < 2 ^ 8
bytes_fit [] k = lit< tt
bytes_fit (word ∷ words) zero = omega arith
bytes_fit (word ∷ words) (suc zero) = omega arith
bytes_fit (word ∷ words) (suc (suc zero)) = omega arith
bytes_fit (word ∷ words) (suc (suc (suc zero))) = omega arith
bytes_fit (word ∷ words) (suc (suc (suc (suc k)))) = bytes_fit words k
