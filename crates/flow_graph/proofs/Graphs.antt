-- A graph and a fault, from what was found.
use Rattle.std.proofs.Common.{◌≡◌, ℕ, zero, suc, ◌+◌, ◌<◌, ◌≤◌, List, [], ◌∷◌, ◌++◌, length, take, get_or, Option, Some, None, Err, refl, sym, ap, ◌∙◌, subst, add-one, zero-add, arith}
use Rattle.std.specs.Prelude.{slice_get, All, Contains, IfSome, ◌⊎◌}
use Rattle.std.proofs.Common.{inl, inr}
use Rattle.std.specs.List.{AllZip}
use Rattle.std.specs.declared.cmp.Ordering.{Ordering}
use Rattle.std.specs.declared.cmp.Ordering.TheVariants.{Less, Equal, Greater}
use Rattle.std.specs.Ordering.{ordering_reverse}
use Rattle.std.proofs.lemmas.Cmp.{tied_itself}
use Rattle.std.proofs.lemmas.List.{take_more}
use Rattle.std.proofs.lemmas.List.Elements.{All-contains}
use Rattle.std.proofs.lemmas.Map.Keys.{Less-from_sorted}
use Rattle.std.proofs.lemmas.Option.{slice_get-get_or, slice_get_within, get_or_from_slice_get}
use Rattle.elf_image.specs.Image.{ImageData}
use Rattle.oil_model.specs.declared.system.System.{System}
use Rattle.osek_kernel.specs.Contexts.{context_at, entry_of}
use Rattle.flow_graph.specs.declared.edge.Edge.{Edge}
use Rattle.flow_graph.specs.declared.fault.CodeFault.{CodeFault}
use Rattle.flow_graph.specs.declared.fault.CodeFault.TheVariants.{At, Memory}
use Rattle.flow_graph.specs.declared.fault.CodeKind.{CodeKind}
use Rattle.flow_graph.specs.declared.fault.CodeKind.TheVariants.{Limit}
use Rattle.flow_graph.specs.declared.node.Node.{Node}
use Rattle.flow_graph.specs.Graph.{Program, node_cmp, edges_of, entries_from}
use Rattle.flow_graph.specs.Faults.{fault_of, IsNode, along}
use Rattle.flow_graph.specs.Judging.{AreAllNodes, IsFirstFault, Answers, whole, earlier, large, faulty}
use Rattle.flow_graph.specs.Working.Answered.{HaveNone, IsFirstOf}
use Rattle.flow_graph.specs.Working.Numbered.{AreClosed}
use Rattle.flow_graph.specs.Working.Reached.{Reaches}
use Rattle.flow_graph.proofs.Nodes.{node_total, Contains-at, at-Contains, same_some}

-- one more in each of two lists
AllZip-add : {A B : Type 0} (R : A → B → Type 0) (xs : List A) (ys : List B) (x : A) (y : B) → AllZip R xs ys → R x y → AllZip R (xs ++ x ∷ []) (ys ++ y ∷ [])
AllZip-add R [] [] x y all one = (one, tt)
AllZip-add R [] (b ∷ ys) x y all one = absurd all
AllZip-add R (a ∷ xs) [] x y all one = absurd all
AllZip-add R (a ∷ xs) (b ∷ ys) x y all one = (all.0, AllZip-add R xs ys x y all.1 one)

pub AllZip-more : {A B : Type 0} (R : A → B → Type 0) (xs : List A) (i : ℕ) (x : A) (ys after : List B) (y : B) → i < length xs → x ≡ get_or xs i x
    → AllZip R (take i xs) ys → R x y → after ≡ ys ++ y ∷ [] → AllZip R (take (i + 1) xs) after
AllZip-more R xs i x ys after y lt at all one is =
    let step : take (i + 1) xs ≡ take i xs ++ x ∷ [] = take_more xs i x lt ∙ ap (λ z. take i xs ++ z ∷ []) (sym at) in
    rw (step, is) (AllZip-add R (take i xs) ys x y all one)

-- ---- Entries

-- one more entry
pub entries_more : (image : ImageData) (system : System) (place n : ℕ)
    → entries_from image system place (suc n) ≡ entries_from image system place n ++ entry_of image system (context_at system (place + n)) ∷ []
entries_more image system place zero = ap (λ p. entry_of image system (context_at system p) ∷ []) (omega arith)
entries_more image system place (suc n) =
    ap (λ rest. entry_of image system (context_at system place) ∷ rest)
    (entries_more image system (suc place) n ∙ ap (λ p. entries_from image system (suc place) n ++ entry_of image system (context_at system p) ∷ [])
    (omega arith))

pub entries_push : (image : ImageData) (system : System) (n : ℕ) (entries after : List (Option ℕ)) (entry : Option ℕ) → entries ≡ entries_from image system 0 n
    → entry ≡ entry_of image system (context_at system n) → after ≡ entries ++ entry ∷ [] → after ≡ entries_from image system 0 (n + 1)
entries_push image system n entries after entry so_far is pushed =
    pushed ∙ (ap (λ es. es ++ entry ∷ []) so_far ∙ (ap (λ e. entries_from image system 0 n ++ e ∷ [])
    (is ∙ ap (λ p. entry_of image system (context_at system p)) (sym (zero-add n)))
    ∙ (sym (entries_more image system 0 n) ∙ ap (entries_from image system 0) (sym (add-one n)))))

-- ---- Nodes without a fault

-- the edges of all nodes lead to some of them
pub closed_nodes : (program : Program) (nodes : List Node) → AreAllNodes program nodes → All (λ node. fault_of program node ≡ None) nodes
    → AreClosed program nodes
closed_nodes program nodes are faultless = record {
  order = are.are.order;
  closed = λ k d lt j e lt'. leads (get_or nodes k d) (are.are.reached k d lt) (faultless k d lt) j e lt'
      (get_or (edges_of program.code (get_or nodes k d)) j e).to refl;
}
  where
    leads : (node : Node) → IsNode program node → fault_of program node ≡ None → (j : ℕ) (e : Edge Node) → j < length (edges_of program.code node)
        → (to : Option Node) → (get_or (edges_of program.code node) j e).to ≡ to → IfSome (get_or (edges_of program.code node) j e).to (Contains nodes)
    leads node reached none j e lt (Some next) is = rw is (are.all next
        (along node next reached (record {
          faultless = none;
          number = j;
          edge = get_or (edges_of program.code node) j e;
          leaves = slice_get-get_or
              (edges_of program.code node) j e lt;
          arrives = is;
        })))
    leads node reached none j e lt None is = rw is tt

-- ---- The first fault

pub first_there : (program : Program) (nodes : List Node) (i : ℕ) (node : Node) (kind : CodeKind) (fault : Option CodeKind) → i < length nodes
    → node ≡ get_or nodes i node
    → fault ≡ fault_of program node → fault ≡ Some kind → HaveNone program nodes i
    → IsFirstOf program nodes (At kind (Some node.context) (Some node.address))
first_there program nodes i node kind fault lt at is some before = record {
  place = i;
  node = node;
  kind = kind;
  stands = slice_get-get_or nodes i node lt ∙ ap Some (sym at);
  has = sym is ∙ some;
  is = refl;
  before = before;
}

pub none_before : (program : Program) (nodes : List Node) → HaveNone program nodes 0
none_before program nodes = record { none = λ k other below stands. absurd (omega (arith, below)) }

pub none_so_far : (program : Program) (nodes : List Node) (i : ℕ) (node : Node) (fault : Option CodeKind) → i < length nodes → node ≡ get_or nodes i node
    → fault ≡ fault_of program node → fault ≡ None → HaveNone program nodes i → HaveNone program nodes (i + 1)
none_so_far program nodes i node fault lt at is none before = record { none = λ k other below stands. by k other stands (grind (arith, below)) }
  where
    by : (k : ℕ) (other : Node) → slice_get nodes k ≡ Some other → (k < i) ⊎ (k ≡ i) → fault_of program other ≡ None
    by k other stands (inl below) = before.none k other below stands
    by k other stands (inr here) =
        let same : node ≡ other = at ∙ get_or_from_slice_get nodes i other node (sym (ap (slice_get nodes) here) ∙ stands) in
        subst (λ n. fault_of program n ≡ None) same (sym is ∙ none)

pub none_there : (program : Program) (nodes : List Node) (i k : ℕ) (d : Node) → HaveNone program nodes i → length nodes ≤ i → k < length nodes
    → fault_of program (get_or nodes k d) ≡ None
none_there program nodes i k d before all within = before.none k (get_or nodes k d) (omega (arith, all, within)) (slice_get-get_or nodes k d within)

pub ruleset first_faults = (first_there, none_before, none_so_far, none_there)

-- a fault that is first in the list is first in order
first_fault : (program : Program) (nodes : List Node) → AreAllNodes program nodes → (fault : CodeFault) → (first : IsFirstOf program nodes fault)
    → IsFirstFault program first.node first.kind
first_fault program nodes are fault first = record {
  reached = All-contains (IsNode program) nodes first.node are.are.reached (Contains-at nodes first.place first.node first.stands);
  has = first.has;
  first = λ other reached less. earlier_node other less (at-Contains nodes other (are.all other reached));
}
  where
    side : (k : ℕ) → (k < first.place) ⊎ (first.place ≤ k)
    side k = grind arith

    there : (k : ℕ) (other : Node) → slice_get nodes k ≡ Some other → get_or nodes k other ≡ other
    there k other stands = get_or_from_slice_get nodes k other other stands

    not_less : (o : Ordering) → ordering_reverse o ≡ Less → o ≡ Less → ⊥
    not_less Less back less = absurd cc
    not_less Equal back less = absurd cc
    not_less Greater back less = absurd cc

    apart : (k : ℕ) (other : Node) → slice_get nodes k ≡ Some other → node_cmp other first.node ≡ Less → (first.place < k) ⊎ (first.place ≡ k) → ⊥
    apart k other stands less (inl above) =
        let order : node_cmp (get_or nodes first.place other) (get_or nodes k other) ≡ Less =
        Less-from_sorted node_cmp nodes first.place k other are.are.order above (slice_get_within nodes k other stands) in
        let here : node_cmp first.node other ≡ Less = subst (λ n. node_cmp n other ≡ Less)
        (get_or_from_slice_get nodes first.place first.node other first.stands)
        (subst (λ n. node_cmp (get_or nodes first.place other) n ≡ Less) (there k other stands) order) in
        not_less (node_cmp other first.node) (sym (node_total.antisymm first.node other) ∙ here) less
    apart k other stands less (inr same) =
        let one : other ≡ first.node = same_some (sym stands ∙ (ap (slice_get nodes) (sym same) ∙ first.stands)) in
        let equal : node_cmp other first.node ≡ Equal = subst (λ n. node_cmp other n ≡ Equal) one (tied_itself node_total other) in
        let both : Less ≡ Equal = sym less ∙ equal in absurd cc

    above_or_there : (k : ℕ) → first.place ≤ k → (first.place < k) ⊎ (first.place ≡ k)
    above_or_there k le = grind arith

    earlier_node : (other : Node) → node_cmp other first.node ≡ Less → (k : ℕ) × (k < length nodes) × (slice_get nodes k ≡ Some other)
        → fault_of program other ≡ None
    earlier_node other less at = by (side at.0)
      where
        by : (at.0 < first.place) ⊎ (first.place ≤ at.0) → fault_of program other ≡ None
        by (inl below) = first.before.none at.0 other below at.2
        by (inr above) = absurd (apart at.0 other at.2 less (above_or_there at.0 above))

-- ---- Answers

pub answers_first : (program : Program) (nodes : List Node) (fault : CodeFault) → AreAllNodes program nodes → IsFirstOf program nodes fault
    → Answers program None (Err fault)
answers_first program nodes fault are first =
    subst (λ f. Answers program None (Err f)) (sym first.is) (faulty _ nodes first.node first.kind refl are (first_fault program nodes are fault first) refl)

pub answers_large : (program : Program) (nodes : List Node) (fault : CodeFault) → fault ≡ whole Limit → Reaches program nodes → 65535 < length nodes
    → Answers program None (Err fault)
answers_large program nodes fault is reaches many =
    subst (λ f. Answers program None (Err f)) (sym is) (large _ refl (record { nodes = nodes; are = reaches.are; many = many }) refl)

pub answers_early : (program : Program) (early : Option CodeFault) (fault : CodeFault) → early ≡ Some fault → Answers program early (Err fault)
answers_early program early (At kind context address) is = earlier _ is
answers_early program early Memory is = tt
