-- No node has more than 16 open calls.
use Rattle.std.proofs.Common.{◌≡◌, ℕ, ◌-◌, ◌≤◌, Bool, true, false, [], ◌∷◌, length, take, Option, Some, None, refl, subst, length-append, arith}
use Rattle.std.specs.Prelude.{◌==◌, All, slice_get, IfSome}
use Rattle.std.specs.List.{AllByRecursion}
use Rattle.std.proofs.lemmas.Bool.{and_parts, eqb-true, leb-false}
use Rattle.std.proofs.lemmas.List.{length-take-le}
use Rattle.std.proofs.lemmas.List.Elements.{All-from_recursion}
use Rattle.rv32_machine.specs.declared.turns.ServiceAt.{ServiceAt}
use Rattle.rv32_machine.specs.declared.turns.Turn.{Turn}
use Rattle.rv32_machine.specs.declared.turns.Turn.TheVariants.{Onward, Branching, Jumping, Calling, Returning, Serving, Indirect, Breaking}
use Rattle.rv32_machine.specs.Places.{service_at, turn_at}
use Rattle.flow_graph.specs.declared.edge.Edge.{Edge}
use Rattle.flow_graph.specs.declared.node.Node.{Node}
use Rattle.flow_graph.specs.Graph.{Program, ends_by, service_edge, edges_by, edges_of}
use Rattle.flow_graph.specs.Faults.{calls_too_deep, fault_of, IsNode, entry, along}
use Rattle.flow_graph.proofs.Sound.{sound}
use Rattle.wcet_atomic_blocks.proofs.GraphFacts.{at_slice}

-- the edge leads to a node with at most 16 open calls
abbrev StaysShallow : Edge Node → Type 0
StaysShallow edge = IfSome edge.to (λ next. length next.sites ≤ 16)

service_stays : (node : Node) (service : ServiceAt) (ends : Bool) → ends_by service.number ≡ ends → length node.sites ≤ 16
    → StaysShallow (service_edge node service)
service_stays node service true e shallow = rw e tt
service_stays node service false e shallow = rw e shallow

edges_stay : (service : Option ServiceAt) (node : Node) (turn : Turn) → calls_too_deep node turn ≡ false → length node.sites ≤ 16
    → AllByRecursion StaysShallow (edges_by service node turn)
edges_stay service node Onward bounded shallow = (shallow, tt)
edges_stay service node (Branching target) bounded shallow = (shallow, (shallow, tt))
edges_stay service node (Jumping target) bounded shallow = (shallow, tt)
edges_stay service node (Calling target) bounded shallow =
    let fewer = leb-false 16 (length node.sites) bounded in
    let count = length-append node.sites (node.address ∷ []) in
    (omega arith, tt)
edges_stay service node Returning bounded shallow = go (slice_get node.sites (length node.sites - 1)) refl
  where
    go : (o : Option ℕ) → slice_get node.sites (length node.sites - 1) ≡ o → AllByRecursion StaysShallow (edges_by service node Returning)
    go None e = rw e tt
    go (Some site) e =
        let count = length-take-le (length node.sites - 1) node.sites (omega arith) in
        let fewer : length (take (length node.sites - 1) node.sites) ≤ 16 = omega arith in
        rw e (fewer, tt)
edges_stay None node Serving bounded shallow = tt
edges_stay (Some service) node Serving bounded shallow = (service_stays node service (ends_by service.number) refl shallow, tt)
edges_stay service node Indirect bounded shallow = tt
edges_stay service node Breaking bounded shallow = tt

edges_stay_at : (program : Program) (node : Node) (turn : Option Turn) → turn_at program.code node.address ≡ turn → fault_of program node ≡ None
    → length node.sites ≤ 16 → All StaysShallow (edges_of program.code node)
edges_stay_at program node None e faultless shallow = rw e (All-from_recursion StaysShallow [] tt)
edges_stay_at program node (Some turn) e faultless shallow =
    rw e (All-from_recursion StaysShallow (edges_by (service_at program.code node.address) node turn)
    (edges_stay (service_at program.code node.address) node turn (sound program node turn e faultless).shallow shallow))

pub shallow_node : (program : Program) (node : Node) → IsNode program node → length node.sites ≤ 16
shallow_node program node (entry _ is) =
    let none = eqb-true (length node.sites) 0 (and_parts (length node.sites == 0) _ is).0 in
    omega arith
shallow_node program next (along node _ before leads) =
    let stays : StaysShallow leads.edge = at_slice StaysShallow (edges_of program.code node) leads.number leads.edge
    (edges_stay_at program node (turn_at program.code node.address) refl leads.faultless (shallow_node program node before)) leads.leaves in
    subst (λ (o : Option Node). IfSome o (λ n. length n.sites ≤ 16)) leads.arrives stays
