-- Each word of a task up to its loop is reached, so a node of the graph stands in the loop.
use Rattle.std.proofs.Common.{◌≡◌, ◌⊎◌, ℕ, zero, suc, ◌+◌, ◌-◌, ◌<◌, ◌≤◌, ℤ, pos, negsuc, List, [], ◌∷◌, length, Some, inl, inr, refl, sym, ap, ◌∙◌, arith}
use Rattle.std.specs.Prelude.{slice_get}
use Rattle.std.proofs.lemmas.Bool.{cases_lt, le-leb, eq-eqb}
use Rattle.std.proofs.lemmas.Option.{slice_get_read}
use Rattle.flow_graph.specs.declared.edge.EdgeKind.TheVariants as kinds
use Rattle.flow_graph.specs.declared.flow.Flow.{Flow}
use Rattle.flow_graph.specs.declared.node.Node.{Node}
use Rattle.flow_graph.specs.Faults.{IsNode, entry, along}
use Rattle.flow_graph.specs.Graph.{Program, next_node, edge_to, edges_of}
use Rattle.flow_graph.specs.Judging.{IsGraph}
use Rattle.counted_loops.specs.Counted.{HasNode, in_loop}
use Rattle.demo_gen.specs.declared.task.DemoTask.{DemoTask}
use Rattle.demo_gen.specs.Demo.{add, tail_of, code_of, loop_of}
use Rattle.demo_gen.specs.Working.Drawn.{AreDrawn}
use Rattle.demo_plants.proofs.CodeOf.{at, IsPlaced, step_at, tail_at}
use Rattle.demo_plants.proofs.EntriesOf.{the_program, is_demo}
use Rattle.demo_plants.proofs.NodesOf.{IsDemo, IsInTask, next_address, good}

-- ---- Words that just go on

-- an instruction that just goes on stands at the address
pub record GoesAt (program : Program) (address : ℕ) : Type 0 where
  pub rd : ℕ
  pub rs1 : ℕ
  pub imm : ℤ
  pub here : program.code address ≡ Some (add rd rs1 imm)

-- so do all words of a task but the loop's branch and the last one
pub goes_at : (program : Program) (task : DemoTask) (place : ℕ) → IsPlaced program.code program.has_word task → place < task.steps + 6
    → GoesAt program (at task place) ⊎ ((place ≡ task.steps + 2) ⊎ (place ≡ task.steps + 5))
goes_at program task place placed below = by_part (cases_lt place task.steps)
  where
    tail_goes : (r rd rs1 : ℕ) (imm : ℤ) → place ≡ task.steps + r → slice_get (tail_of task.bound) r ≡ Some (add rd rs1 imm)
        → GoesAt program (at task place) ⊎ ((place ≡ task.steps + 2) ⊎ (place ≡ task.steps + 5))
    tail_goes r rd rs1 imm is stands =
        inl (record { rd = rd; rs1 = rs1; imm = imm; here = placed.insn place (add rd rs1 imm) (ap (slice_get (code_of task)) is ∙ (tail_at task r ∙ stands)) })

    by_rest : (r : ℕ) → place ≡ task.steps + r → r < 6 → GoesAt program (at task place) ⊎ ((place ≡ task.steps + 2) ⊎ (place ≡ task.steps + 5))
    by_rest zero is low = tail_goes 0 6 0 (pos (task.bound + 1)) is refl
    by_rest (suc zero) is low = tail_goes 1 6 6 (negsuc 0) is refl
    by_rest (suc (suc zero)) is low = inr (inl is)
    by_rest (suc (suc (suc zero))) is low = tail_goes 3 10 0 (pos 0) is refl
    by_rest (suc (suc (suc (suc zero)))) is low = tail_goes 4 17 0 (pos 2) is refl
    by_rest (suc (suc (suc (suc (suc zero))))) is low = inr (inr is)
    by_rest (suc (suc (suc (suc (suc (suc r)))))) is low = absurd (omega arith)

    by_part : (place < task.steps) ⊎ (task.steps ≤ place) → GoesAt program (at task place) ⊎ ((place ≡ task.steps + 2) ⊎ (place ≡ task.steps + 5))
    by_part (inl early) = inl (record { rd = 5; rs1 = 5; imm = pos 1; here = placed.insn place (add 5 5 (pos 1)) (step_at task place early) })
    by_part (inr late) = by_rest (place - task.steps) (omega arith) (omega arith)

pub edges_on : (program : Program) (node : Node) → GoesAt program node.address → edges_of program.code node ≡ edge_to kinds.Straight (next_node node) ∷ []
edges_on program node goes = let here = goes.here in rw here refl

-- ---- Nodes

-- the node of a context at an address, without open calls
abbrev node_of : ℕ → ℕ → Node
node_of context address = record { context = context; sites = []; address = address }

reaches : (program : Program) (tasks : List DemoTask) (k : ℕ) (task : DemoTask) → IsDemo program tasks → slice_get tasks k ≡ Some task
    → (place : ℕ) → place ≤ task.steps + 1 → IsNode program (node_of k (at task place))
reaches program tasks k task demo there zero few =
    let first : at task 0 ≡ task.entry = omega arith in
    entry (node_of k (at task 0)) (rw (demo.entries k, there, eq-eqb (at task 0) task.entry first) refl)
reaches program tasks k task demo there (suc place) few =
    let placed = demo.placed k task there in
    let node = node_of k (at task place) in
    let within : IsInTask tasks node = record { task = task; there = there; no_calls = refl; place = place; below = omega arith; address_is = refl } in
    let more : place + 1 ≡ suc place = omega arith in
    along node (node_of k (at task (suc place))) (reaches program tasks k task demo there place (omega arith))
    (record {
      faultless = (good program tasks node demo within).fault;
      number = 0;
      edge = edge_to kinds.Straight (next_node node);
      leaves = ap (λ edges. slice_get edges 0) (edges_on program node (before_loop (goes_at program task place placed (omega arith))));
      arrives = ap (λ address. Some (node_of k address)) (next_address task place placed.high (omega arith) ∙ ap (at task) more);
    })
  where
    before_loop : GoesAt program (at task place) ⊎ ((place ≡ task.steps + 2) ⊎ (place ≡ task.steps + 5)) → GoesAt program (at task place)
    before_loop (inl goes) = goes
    before_loop (inr (inl is)) = absurd (omega arith)
    before_loop (inr (inr is)) = absurd (omega arith)

-- the first word of a task's loop is that of a node
pub has_node : (tasks : List DemoTask) (flow : Flow) (k : ℕ) (task : DemoTask) → AreDrawn tasks → IsGraph (the_program tasks) flow
    → slice_get tasks k ≡ Some task → HasNode flow (in_loop (loop_of task))
has_node tasks flow k task drawn graph there =
    let from = (loop_of task).from in
    let node = node_of k (at task (task.steps + 1)) in
    let has = graph.nodes.all node (reaches (the_program tasks) tasks k task (is_demo tasks drawn) there (task.steps + 1) (omega arith)) in
    record {
      number = has.0;
      node = node;
      stands = slice_get_read flow.nodes (length flow.nodes) has.0 node refl has.1 (sym has.2);
      lies = rw (le-leb from from (omega arith), le-leb from (loop_of task).to (omega arith)) refl;
    }
