-- Bounds of loops don't count in the code graph: programs whose loops have the same addresses have the same graph.
use Rattle.std.proofs.Common.{◌≡◌, ℕ, zero, suc, Bool, true, false, cond, List, [], ◌∷◌, length, get_or, Option, Some, None, refl, sym, ◌∙◌, ap, subst, arith}
use Rattle.std.specs.Prelude.{◌&&◌, ◌||◌, not, All, nat_le, slice_get}
use Rattle.std.specs.List.{list_any, AllZip}
use Rattle.std.specs.Option.{option_map_or}
use Rattle.rv32_machine.specs.declared.turns.Turn.{Turn}
use Rattle.rv32_machine.specs.Places.{service_at, turn_at}
use Rattle.timing_file.specs.declared.timing.Loop.{Loop}
use Rattle.flow_graph.specs.declared.edge.Edge.{Edge}
use Rattle.flow_graph.specs.declared.fault.CodeKind.{CodeKind}
use Rattle.flow_graph.specs.declared.fault.CodeKind.TheVariants as faults
use Rattle.flow_graph.specs.declared.flow.Flow.{Flow}
use Rattle.flow_graph.specs.declared.flow.Leaving.{Leaving}
use Rattle.flow_graph.specs.declared.node.Node.{Node}
use Rattle.flow_graph.specs.Graph.{Program, program_of, edges_by}
use Rattle.flow_graph.specs.Faults.{covers_back, is_uncovered, is_local, goes_back_uncovered, turn_fault, fault_of, Leads, IsNode, entry, along}
use Rattle.flow_graph.specs.Judging.{IsGraph, AreNodes, AreAllNodes, IsLeaving}
use Rattle.wcet_atomic_blocks.specs.Plants.{IsGraphOf}
use Rattle.counted_loops.specs.Found.{with_bound, with_bounds, found_timing}
use Rattle.counted_loops.specs.Laws.{GraphsStay}

-- ---- Loops with the same addresses

abbrev with_loops : Program → List Loop → Program
with_loops program loops = record program { loops = loops }

-- they cover the same edges
abbrev CoverSame : List Loop → List Loop → Type 0
CoverSame loops loops' = (address target : ℕ) → list_any (covers_back address target) loops' ≡ list_any (covers_back address target) loops

covers_kept : (address target : ℕ) (l : Loop) (bound : Option ℕ) → covers_back address target (with_bound l bound) ≡ covers_back address target l
covers_kept address target l None = refl
covers_kept address target l (Some bound) = refl

cover_same : (loops : List Loop) (found : List (Option ℕ)) → length found ≡ length loops → CoverSame loops (with_bounds loops found)
cover_same [] [] same address target = refl
cover_same [] (bound ∷ found) same address target = absurd (omega (arith, same))
cover_same (l ∷ loops) [] same address target = absurd (omega (arith, same))
cover_same (l ∷ loops) (bound ∷ found) same address target =
    ap (λ b. b || list_any (covers_back address target) (with_bounds loops found)) (covers_kept address target l bound)
    ∙ ap (λ b. covers_back address target l || b) (cover_same loops found (omega (arith, same)) address target)

-- ---- Faults

any_same : {A : Type 0} (test test' : A → Bool) (xs : List A) → ((x : A) → test' x ≡ test x) → list_any test' xs ≡ list_any test xs
any_same test test' [] same = refl
any_same test test' (x ∷ xs) same = ap (λ b. b || list_any test' xs) (same x) ∙ ap (λ b. test x || b) (any_same test test' xs same)

uncovered_same : (program : Program) (loops : List Loop) → CoverSame program.loops loops → (address : ℕ) (edge : Edge Node)
    → is_uncovered (with_loops program loops) address edge ≡ is_uncovered program address edge
uncovered_same program loops same address edge = by edge.to refl
  where
    by : (to : Option Node) → edge.to ≡ to → is_uncovered (with_loops program loops) address edge ≡ is_uncovered program address edge
    by None e = rw e refl
    by (Some to) e = rw e (ap (λ b. is_local edge.kind && (nat_le to.address address && not b)) (same address to.address))

turn_fault_same : (program : Program) (loops : List Loop) → CoverSame program.loops loops → (node : Node) (turn : Option Turn)
    → turn_fault (with_loops program loops) node turn ≡ turn_fault program node turn
turn_fault_same program loops same node None = refl
turn_fault_same program loops same node (Some turn) =
    let back : goes_back_uncovered (with_loops program loops) node turn ≡ goes_back_uncovered program node turn =
    any_same (is_uncovered program node.address) (is_uncovered (with_loops program loops) node.address)
    (edges_by (service_at program.code node.address) node turn) (uncovered_same program loops same node.address) in
    rw back refl

fault_same : (program : Program) (loops : List Loop) → CoverSame program.loops loops → (node : Node) → fault_of (with_loops program loops) node ≡ fault_of program node
fault_same program loops same node =
    ap (λ (f : Option CodeKind). cond (program.has_word node.address) f (Some faults.Leaves))
    (turn_fault_same program loops same node (turn_at program.code node.address))

-- ---- Nodes

node_kept : (program : Program) (loops : List Loop) → CoverSame program.loops loops → (node : Node) → IsNode program node → IsNode (with_loops program loops) node
node_kept program loops same node (entry _ is) = entry node is
node_kept program loops same next (along node _ before leads) = along node next (node_kept program loops same node before) (record {
  faultless = fault_same program loops same node ∙ leads.faultless;
  number = leads.number;
  edge = leads.edge;
  leaves = leads.leaves;
  arrives = leads.arrives;
})

node_back : (program : Program) (loops : List Loop) → CoverSame program.loops loops → (node : Node) → IsNode (with_loops program loops) node → IsNode program node
node_back program loops same node (entry _ is) = entry node is
node_back program loops same next (along node _ before leads) = along node next (node_back program loops same node before) (record {
  faultless = sym (fault_same program loops same node) ∙ leads.faultless;
  number = leads.number;
  edge = leads.edge;
  leaves = leads.leaves;
  arrives = leads.arrives;
})

leaving_kept : (program : Program) (loops : List Loop) (nodes all : List Node) (leaving : List Leaving) → AllZip (IsLeaving program all) nodes leaving
    → AllZip (IsLeaving (with_loops program loops) all) nodes leaving
leaving_kept program loops [] all [] are = tt
leaving_kept program loops [] all (l ∷ leaving) are = absurd are
leaving_kept program loops (node ∷ nodes) all [] are = absurd are
leaving_kept program loops (node ∷ nodes) all (l ∷ leaving) are =
    (record { service_is = are.0.service_is; edges_are = are.0.edges_are }, leaving_kept program loops nodes all leaving are.1)

graph_kept : (program : Program) (loops : List Loop) (flow : Flow) → CoverSame program.loops loops → IsGraph program flow → IsGraph (with_loops program loops) flow
graph_kept program loops flow same is = record {
  nodes = record {
    are = record {
      order = is.nodes.are.order;
      reached = λ k d lt. node_kept program loops same (get_or flow.nodes k d) (is.nodes.are.reached k d lt);
    };
    all = λ node reached. is.nodes.all node (node_back program loops same node reached);
    few = is.nodes.few;
  };
  faultless = λ k d lt. fault_same program loops same (get_or flow.nodes k d) ∙ is.faultless k d lt;
  leaving = leaving_kept program loops flow.nodes flow.nodes flow.leaving is.leaving;
}

pub graphs_stay : GraphsStay
graphs_stay image system timing flow found same is = record {
  early = is.early;
  graph = graph_kept (program_of image system timing) (with_bounds timing.loops found) flow (cover_same timing.loops found same) is.graph;
}
