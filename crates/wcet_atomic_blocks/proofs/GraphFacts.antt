-- What a code graph tells of its nodes and edges by their numbers.
use Rattle.std.proofs.Common.{◌≡◌, ℕ, suc, zero, ◌-◌, ◌<◌, Bool, true, false, List, [], ◌∷◌, length, arith, ap, ◌∙◌, subst, sym, refl, Option, Some, None}
use Rattle.std.specs.Prelude.{◌==◌, ◌&&◌, nat_eq, All, slice_get, option_and_then, IfSome}
use Rattle.std.specs.List.{AllZip, AllByRecursion}
use Rattle.std.specs.Option.{option_map_or}
use Rattle.std.proofs.lemmas.List.Elements.{All-from_recursion}
use Rattle.std.proofs.lemmas.Option.{slice_get_within, get_or_from_slice_get}
use Rattle.rv32_machine.specs.declared.turns.ServiceAt.{ServiceAt}
use Rattle.rv32_machine.specs.declared.turns.Turn.{Turn}
use Rattle.rv32_machine.specs.declared.turns.Turn.TheVariants.{Onward, Branching, Jumping, Calling, Returning, Serving, Indirect, Breaking}
use Rattle.rv32_machine.specs.Places.{service_at, turn_at}
use Rattle.flow_graph.specs.declared.edge.Edge.{Edge}
use Rattle.flow_graph.specs.declared.flow.Flow.{Flow}
use Rattle.flow_graph.specs.declared.flow.Leaving.{Leaving}
use Rattle.flow_graph.specs.declared.node.Node.{Node}
use Rattle.flow_graph.specs.Graph.{Program, ends_by, service_edge, edges_by, edges_of}
use Rattle.flow_graph.specs.Faults.{is_entry_of, IsNode, entry, along}
use Rattle.flow_graph.specs.Judging.{IsGraph, IsEdge, IsTarget, IsLeaving}
use Rattle.wcet_atomic_blocks.specs.Blocks.{HasEdge}

-- ---- Lists

pub at_slice : {X : Type 0} (P : X → Type 0) (xs : List X) (k : ℕ) (x : X) → All P xs → slice_get xs k ≡ Some x → P x
at_slice P xs k x each at = subst P (get_or_from_slice_get xs k x x at) (each k x (slice_get_within xs k x at))

pub zip_length : {A B : Type 0} (R : A → B → Type 0) (xs : List A) (ys : List B) → AllZip R xs ys → length xs ≡ length ys
zip_length R [] [] zip = refl
zip_length R [] (b ∷ ys) zip = absurd zip
zip_length R (a ∷ xs) [] zip = absurd zip
zip_length R (a ∷ xs) (b ∷ ys) zip = ap suc (zip_length R xs ys zip.1)

-- what is at a place of the second list, beside the one at that place of the first
pub record Beside {A B : Type 0} (R : A → B → Type 0) (xs : List A) (k : ℕ) (y : B) : Type 0 where
  pub mate : A
  pub stands : slice_get xs k ≡ Some mate
  pub related : R mate y

pub beside : {A B : Type 0} (R : A → B → Type 0) (xs : List A) (ys : List B) (k : ℕ) (y : B) → AllZip R xs ys → slice_get ys k ≡ Some y → Beside R xs k y
beside R [] [] k y zip at = absurd cc
beside R [] (b ∷ ys) k y zip at = absurd zip
beside R (a ∷ xs) [] k y zip at = absurd zip
beside R (a ∷ xs) (b ∷ ys) zero y zip at = let same : b ≡ y = cc in record { mate = a; stands = refl; related = subst (R a) same zip.0 }
beside R (a ∷ xs) (b ∷ ys) (suc k) y zip at = let more = beside R xs ys k y zip.1 at in
    record { mate = more.mate; stands = more.stands; related = more.related }

pub beside_first : {A B : Type 0} (R : A → B → Type 0) (xs : List A) (ys : List B) (k : ℕ) (x : A) → AllZip R xs ys → slice_get xs k ≡ Some x
    → (y : B) × (slice_get ys k ≡ Some y) × R x y
beside_first R [] [] k x zip at = absurd cc
beside_first R [] (b ∷ ys) k x zip at = absurd zip
beside_first R (a ∷ xs) [] k x zip at = absurd zip
beside_first R (a ∷ xs) (b ∷ ys) zero x zip at = let same : a ≡ x = cc in (b, refl, subst (λ v. R v b) same zip.0)
beside_first R (a ∷ xs) (b ∷ ys) (suc k) x zip at = beside_first R xs ys k x zip.1 at

-- ---- Edges of nodes

-- an edge leads to a node of the context
abbrev Keeps : Node → Edge Node → Type 0
Keeps node edge = IfSome edge.to (λ next. next.context ≡ node.context)

service_keeps : (node : Node) (service : ServiceAt) (ends : Bool) → ends_by service.number ≡ ends → Keeps node (service_edge node service)
service_keeps node service true e = rw e tt
service_keeps node service false e = rw e refl

edges_keep : (service : Option ServiceAt) (node : Node) (turn : Turn) → AllByRecursion (Keeps node) (edges_by service node turn)
edges_keep service node Onward = (refl, tt)
edges_keep service node (Branching target) = (refl, (refl, tt))
edges_keep service node (Jumping target) = (refl, tt)
edges_keep service node (Calling target) = (refl, tt)
edges_keep service node Returning = go (slice_get node.sites (length node.sites - 1)) refl
  where
    go : (o : Option ℕ) → slice_get node.sites (length node.sites - 1) ≡ o → AllByRecursion (Keeps node) (edges_by service node Returning)
    go None e = rw e tt
    go (Some site) e = rw e (refl, tt)
edges_keep None node Serving = tt
edges_keep (Some service) node Serving = (service_keeps node service (ends_by service.number) refl, tt)
edges_keep service node Indirect = tt
edges_keep service node Breaking = tt

edges_keep_at : (program : Program) (node : Node) (turn : Option Turn) → turn_at program.code node.address ≡ turn
    → All (Keeps node) (edges_of program.code node)
edges_keep_at program node None e = rw e (All-from_recursion (Keeps node) [] tt)
edges_keep_at program node (Some turn) e =
    rw e (All-from_recursion (Keeps node) (edges_by (service_at program.code node.address) node turn)
    (edges_keep (service_at program.code node.address) node turn))

pub edge_keeps : (program : Program) (node next : Node) (k : ℕ) (edge : Edge Node) → slice_get (edges_of program.code node) k ≡ Some edge → edge.to ≡ Some next
    → next.context ≡ node.context
edge_keeps program node next k edge at to =
    let kept : Keeps node edge = at_slice (Keeps node) (edges_of program.code node) k edge (edges_keep_at program node (turn_at program.code node.address) refl)
    at in
    subst (λ o. IfSome o (λ (n : Node). n.context ≡ node.context)) to kept

-- ---- Contexts of nodes

entry_has_place : (entries : List (Option ℕ)) (node : Node) (o : Option (Option ℕ)) → slice_get entries node.context ≡ o → is_entry_of entries node ≡ true
    → node.context < length entries
entry_has_place entries node (Some a) e is = slice_get_within entries node.context a e
entry_has_place entries node None e is =
    absurd (wrong (length node.sites == 0)
    (ap (λ p. (length node.sites == 0) && option_map_or (nat_eq node.address) (option_and_then (λ (a : Option ℕ). a) p) false) (sym e) ∙ is))
  where
    wrong : (b : Bool) → b && false ≡ true → ⊥
    wrong true h = absurd cc
    wrong false h = absurd cc

pub context_exists : (program : Program) (node : Node) → IsNode program node → node.context < length program.entries
context_exists program node (entry _ is) = entry_has_place program.entries node (slice_get program.entries node.context) refl is
context_exists program next (along node _ before leads) =
    let same = edge_keeps program node next leads.number leads.edge leads.leaves leads.arrives in
    let inside = context_exists program node before in omega (arith, same, inside)

-- ---- Edges by numbers

-- an edge between numbers is one between the nodes of these numbers
pub record IsEdgeOf (program : Program) (flow : Flow) (number next : ℕ) : Type 0 where
  pub node : Node
  pub stands : slice_get flow.nodes number ≡ Some node
  pub target : Node
  pub stands_too : slice_get flow.nodes next ≡ Some target
  pub place : ℕ
  pub edge : Edge Node
  pub leaves : slice_get (edges_of program.code node) place ≡ Some edge
  pub arrives : edge.to ≡ Some target

target_there : (nodes : List Node) (to : Option Node) (number next : ℕ) (numbered : Option ℕ) → numbered ≡ Some next → IsTarget nodes to numbered
    → (target : Node) × (to ≡ Some target) × (slice_get nodes next ≡ Some target)
target_there nodes None number next None e is = absurd cc
target_there nodes None number next (Some i) e is = absurd is
target_there nodes (Some target) number next None e is = absurd cc
target_there nodes (Some target) number next (Some i) e is = (target, refl, let same : next ≡ i = cc in ap (slice_get nodes) same ∙ is)

pub leaving_there : (program : Program) (flow : Flow) (number : ℕ) (leaving : Leaving) → IsGraph program flow → slice_get flow.leaving number ≡ Some leaving
    → Beside (IsLeaving program flow.nodes) flow.nodes number leaving
leaving_there program flow number leaving graph at = beside (IsLeaving program flow.nodes) flow.nodes flow.leaving number leaving graph.leaving at

pub edge_between : (program : Program) (flow : Flow) (number next : ℕ) → IsGraph program flow → HasEdge flow number next → IsEdgeOf program flow number next
edge_between program flow number next graph edge = go (slice_get flow.leaving number) refl
  where
    go : (o : Option Leaving) → slice_get flow.leaving number ≡ o → IsEdgeOf program flow number next
    go None e = absurd (let l = ap (λ p. slice_get (option_map_or (λ (l : Leaving). l.edges) p []) edge.number) (sym e) ∙ edge.leaves in cc)
    go (Some leaving) e =
        let here = leaving_there program flow number leaving graph e in
        let at : slice_get leaving.edges edge.number ≡ Some edge.edge =
        ap (λ p. slice_get (option_map_or (λ (l : Leaving). l.edges) p []) edge.number) (sym e) ∙ edge.leaves in
        let mate = beside (IsEdge flow.nodes) (edges_of program.code here.mate) leaving.edges edge.number edge.edge here.related.edges_are at in
        let there = target_there flow.nodes mate.mate.to number next edge.edge.to edge.arrives mate.related.to_is in
        record {
          node = here.mate;
          stands = here.stands;
          target = there.0;
          stands_too = there.2;
          place = edge.number;
          edge = mate.mate;
          leaves = mate.stands;
          arrives = there.1;
        }
