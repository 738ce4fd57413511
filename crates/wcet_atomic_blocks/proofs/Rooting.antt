-- That each context begins at a node, and which numbers these nodes have.
use Rattle.std.proofs.Common.{◌≡◌, ℕ, suc, zero, ◌<◌, ◌≤◌, inl, inr, Bool, true, false, cond, List, [], ◌∷◌, length, get_or, arith, ap, ◌∙◌, subst, sym, refl, Option, Some, None}
use Rattle.std.specs.Prelude.{nat_eq, nat_lt, not, slice_get, is_none, position, option_and_then, IsSomeAnd}
use Rattle.std.specs.Option.{option_map_or}
use Rattle.std.specs.List.{prefix_len}
use Rattle.std.proofs.lemmas.Bool.{eq-eqb, cases_lt, lt-ltb}
use Rattle.std.proofs.lemmas.Option.{slice_get-get_or, slice_get_within}
use Rattle.elf_image.specs.Image.{ImageData}
use Rattle.oil_model.specs.declared.system.System.{System}
use Rattle.timing_file.specs.declared.timing.Timing.{Timing}
use Rattle.flow_graph.specs.declared.fault.CodeFault.{CodeFault}
use Rattle.flow_graph.specs.declared.flow.Flow.{Flow}
use Rattle.flow_graph.specs.declared.node.Node.{Node}
use Rattle.flow_graph.specs.Faults.{is_entry_of, entry}
use Rattle.flow_graph.specs.Graph.{program_of, entries_of}
use Rattle.flow_graph.specs.Judging.{IsLeaving, names_fit, entry_fault, alarm_fault}
use Rattle.wcet_atomic_blocks.specs.Blocks.{IsWhole}
use Rattle.wcet_atomic_blocks.specs.Plants.{IsEntryNode, AreEntries, IsGraphOf}
use Rattle.wcet_atomic_blocks.specs.Working.Rooted.{AreEntriesAmong, IsRooted}
use Rattle.wcet_atomic_blocks.proofs.GraphFacts.{zip_length, edge_between, context_exists}

-- ---- Each context has an address

no_fault : (fit : Bool) (missing : Option ℕ) (others : Option CodeFault) (name : CodeFault) → cond fit (entry_fault missing others) (Some name) ≡ None
    → missing ≡ None
no_fault true None others name e = refl
no_fault true (Some context) others name e = absurd cc
no_fault false missing others name e = absurd cc

all_pass : (addresses : List (Option ℕ)) → length addresses ≤ prefix_len (λ a. not (is_none a)) addresses → (context : ℕ) → context < length addresses
    → (address : ℕ) × (slice_get addresses context ≡ Some (Some address))
all_pass [] long context inside = absurd (omega arith)
all_pass (None ∷ addresses) long context inside = absurd (omega arith)
all_pass (Some address ∷ addresses) long zero inside = (address, refl)
all_pass (Some address ∷ addresses) long (suc context) inside = all_pass addresses (omega arith) context (omega arith)

past_all : (place count : ℕ) → cond (nat_lt place count) (Some place) None ≡ None → count ≤ place
past_all place count none = elim (cases_lt place count) [
  | inl below ↦ absurd (let e : cond (nat_lt place count) (Some place) None ≡ Some place = ap (λ b. cond b (Some place) None) (lt-ltb place count below) in
      let w : None ≡ Some place = sym none ∙ e in cc)
  | inr past ↦ past
]

none_missing : (addresses : List (Option ℕ)) → position is_none addresses ≡ None → (context : ℕ) → context < length addresses
    → (address : ℕ) × (slice_get addresses context ≡ Some (Some address))
none_missing addresses none = all_pass addresses (past_all (prefix_len (λ a. not (is_none a)) addresses) (length addresses) none)

-- ---- Each context has a node

entry_at : (addresses : List (Option ℕ)) (context address : ℕ) → slice_get addresses context ≡ Some (Some address)
    → is_entry_of addresses (record { context = context; sites = []; address = address }) ≡ true
entry_at addresses context address at =
    ap (λ o. option_map_or (nat_eq address) (option_and_then (λ (a : Option ℕ). a) o) false) at ∙ eq-eqb address address refl

pub is_rooted : (image : ImageData) (system : System) (timing : Timing) (flow : Flow) → IsGraphOf image system timing flow
    → IsRooted (entries_of image system) flow
is_rooted image system timing flow have = record {
  leaving = sym (zip_length (IsLeaving (program_of image system timing) flow.nodes) flow.nodes flow.leaving have.graph.leaving);
  edges = λ node next edge. let e = edge_between (program_of image system timing) flow node next have.graph edge in
      slice_get_within flow.nodes next e.target e.stands_too;
  contexts = λ k d inside. context_exists (program_of image system timing) (get_or flow.nodes k d) (have.graph.nodes.are.reached k d inside);
  roots = λ context inside. root context inside;
}
  where
    missing : position is_none (entries_of image system) ≡ None
    missing = no_fault (names_fit system timing) (position is_none (entries_of image system)) (alarm_fault system timing) _ have.early

    root : (context : ℕ) → context < length (entries_of image system) → (number : ℕ) × IsEntryNode (entries_of image system) flow context number
    root context inside =
        let found = none_missing (entries_of image system) missing context inside in
        let node : Node = record { context = context; sites = []; address = found.0 } in
        let is = entry_at (entries_of image system) context found.0 found.1 in
        let there = have.graph.nodes.all node (entry node is) in
        (there.0, record { node = node; stands = slice_get-get_or flow.nodes there.0 node there.1 ∙ ap Some there.2; context_is = refl; is_entry = is })

-- ---- The numbers of these nodes

number_there : (addresses : List (Option ℕ)) (flow : Flow) (entries : List ℕ) (context : ℕ) → AreEntriesAmong addresses flow (length flow.nodes) entries
    → (number : ℕ) → IsEntryNode addresses flow context number → IsSomeAnd (slice_get entries context) (IsEntryNode addresses flow context)
number_there addresses flow entries context among number root =
    subst (λ (c : ℕ). IsSomeAnd (slice_get entries c) (IsEntryNode addresses flow c)) root.context_is
    (among.each number root.node (slice_get_within flow.nodes number root.node root.stands) root.stands root.is_entry)

pub are_entered : (addresses given : List (Option ℕ)) (flow : Flow) (entries slice : List ℕ) → given ≡ addresses → slice ≡ entries → IsRooted addresses flow
    → AreEntriesAmong given flow (length flow.nodes) entries → AreEntries addresses flow slice
are_entered addresses given flow entries slice same same_too rooted among =
    let named : AreEntriesAmong addresses flow (length flow.nodes) entries =
    subst (λ (a : List (Option ℕ)). AreEntriesAmong a flow (length flow.nodes) entries) same among in
    subst (AreEntries addresses flow) (sym same_too) (record {
      count = named.long;
      each = λ context inside. let root = rooted.roots context inside in number_there addresses flow entries context named root.0 root.1;
    })

exists_at : (addresses : List (Option ℕ)) (flow : Flow) (context : ℕ) (o : Option ℕ) (number : ℕ) → o ≡ Some number
    → IsSomeAnd o (IsEntryNode addresses flow context) → number < length flow.nodes
exists_at addresses flow context None number e is = absurd cc
exists_at addresses flow context (Some other) number e is =
    let same : other ≡ number = cc in subst (λ (n : ℕ). n < length flow.nodes) same (slice_get_within flow.nodes other is.node is.stands)

pub is_whole : (addresses : List (Option ℕ)) (flow : Flow) (entries : List ℕ) → IsRooted addresses flow → AreEntries addresses flow entries
    → IsWhole flow entries
is_whole addresses flow entries rooted entered = record {
  leaving = rooted.leaving;
  edges = rooted.edges;
  contexts = λ k d inside. let below = rooted.contexts k d inside in let same = entered.count in omega (arith, below, same);
  entry_nodes = λ k d inside. let same = entered.count in
      exists_at addresses flow k (slice_get entries k) (get_or entries k d) (slice_get-get_or entries k d inside)
      (entered.each k (omega (arith, same, inside)));
}
