-- Each loop of a generated system is a counted loop with its declared bound.
use Rattle.std.proofs.Common.{◌≡◌, ◌⊎◌, ℕ, zero, suc, ◌+◌, ◌*◌, ◌%◌, ◌<◌, ◌≤◌, pos, negsuc, Bool, true, false, List, [], ◌∷◌, map, Option, Some, None, inl, inr, refl, sym, ap, ◌∙◌, subst, arith}
use Rattle.std.specs.Prelude.{slice_get, slice_index_or, nat_le, All, Contains, IfSome}
use Rattle.std.proofs.lemmas.Bool.{and_parts, cases_lt, leb-true, false≢true}
use Rattle.std.proofs.lemmas.Int.{ints}
use Rattle.std.proofs.lemmas.List.Elements.{All-contains, All-map}
use Rattle.std.proofs.lemmas.Option.{same_Some, slice_get-get_or}
use Rattle.rv32_decode.specs.declared.instruction.Insn.{Insn}
use Rattle.rv32_decode.specs.declared.instruction.Insn.TheVariants.{Ecall}
use Rattle.rv32_decode.specs.declared.instruction.BranchOp.TheVariants.{Bne}
use Rattle.rv32_machine.specs.Code.{insn_at}
use Rattle.rv32_machine.specs.Execution.{following, moved}
use Rattle.rv32_machine.specs.declared.turns.ServiceAt.{ServiceAt}
use Rattle.rv32_machine.specs.Places.{service_at}
use Rattle.timing_file.specs.declared.timing.Loop.{Loop}
use Rattle.flow_graph.specs.declared.edge.Edge.{Edge}
use Rattle.flow_graph.specs.declared.edge.EdgeKind.{EdgeKind}
use Rattle.flow_graph.specs.declared.edge.EdgeKind.TheVariants as kinds
use Rattle.flow_graph.specs.declared.flow.Flow.{Flow}
use Rattle.flow_graph.specs.declared.node.Node.{Node}
use Rattle.flow_graph.specs.Graph.{Program, next_node, node_at, edge_to, edges_of, entries_of}
use Rattle.flow_graph.specs.Judging.{IsGraph, IsEdge, IsTarget}
use Rattle.wcet_atomic_blocks.specs.Plants.{PlantData, IsPlant, IsPlantOf}
use Rattle.wcet_atomic_blocks.proofs.GraphFacts.{beside, leaving_there}
use Rattle.counted_loops.specs.Counted.{HasEdge, GoesOnTo, EntersAt, BeginsNowhere, in_loop, IsCounted}
use Rattle.counted_loops.specs.Rounds.{AreRounds}
use Rattle.counted_loops.proofs.Going.{is_in}
use Rattle.counted_loops.specs.Words.{IsWordIn, loads, adds}
use Rattle.demo_gen.specs.declared.task.DemoTask.{DemoTask}
use Rattle.demo_gen.specs.Demo.{add, back, tail_of, code_of, loop_of, the_image, the_system, the_timing}
use Rattle.demo_gen.specs.Draws.{base, size_of}
use Rattle.demo_gen.specs.Working.Drawn.{Follow, AreDrawn}
use Rattle.demo_plants.proofs.Closing.{same_plant}
use Rattle.demo_plants.proofs.CodeOf.{at, IsPlaced, tail_at}
use Rattle.demo_plants.proofs.EntriesOf.{begins, entries_are, the_program, is_demo}
use Rattle.demo_plants.proofs.Faultless.{tasks_apart}
use Rattle.demo_plants.proofs.NodesOf.{never, IsDemo, IsInTask, address_before, back_address, nowhere, good, only_edge, either_edge}
use Rattle.demo_plants.proofs.Plant.{node_inside}
use Rattle.demo_runs.proofs.Reached.{GoesAt, goes_at, edges_on, has_node}

-- ---- Rounds

rounds_down : (bound : ℕ) → AreRounds Bne (pos (bound + 1)) (negsuc 0) (pos 0) (suc bound)
rounds_down bound = record {
  up = tt;
  first = record { positive = omega arith; holds = omega (arith, ints); least = λ i positive ended. omega (arith, ints, ended) };
}

-- ---- Edges from the nodes of tasks

-- an edge just goes on to the next word
record GoesOn (node next : Node) (kind : EdgeKind) : Type 0 where
  straight : kind ≡ kinds.Straight
  to : next.address ≡ following node.address

-- an edge goes back to the first word of its task's loop
record GoesBack (tasks : List DemoTask) (node next : Node) (within : IsInTask tasks node) : Type 0 where
  from : within.place ≡ within.task.steps + 2
  to : next.address ≡ at within.task (within.task.steps + 1)

straight_edge : (node next : Node) (edge : Edge Node) → edge_to kinds.Straight (next_node node) ≡ edge → edge.to ≡ Some next → GoesOn node next edge.kind
straight_edge node next edge is arrives = record {
  straight = sym (ap (λ (e : Edge Node). e.kind) is);
  to = sym (ap (λ (n : Node). n.address) (same_Some (next_node node) next (ap (λ (e : Edge Node). e.to) is ∙ arrives)));
}

edge_goes : (program : Program) (tasks : List DemoTask) (node next : Node) (k : ℕ) (edge : Edge Node) → IsDemo program tasks → (within : IsInTask tasks node)
    → slice_get (edges_of program.code node) k ≡ Some edge → edge.to ≡ Some next → GoesOn node next edge.kind ⊎ GoesBack tasks node next within
edge_goes program tasks node next k edge demo within leaves arrives = by_word (goes_at program within.task within.place placed within.below)
  where
    placed : IsPlaced program.code program.has_word within.task
    placed = demo.placed node.context within.task within.there

    tail_here : (r : ℕ) (insn : Insn) → within.place ≡ within.task.steps + r → slice_get (tail_of within.task.bound) r ≡ Some insn
        → program.code node.address ≡ Some insn
    tail_here r insn is stands =
        ap program.code (within.address_is ∙ ap (at within.task) is) ∙ placed.insn (within.task.steps + r) insn (tail_at within.task r ∙ stands)

    onward : GoesAt program node.address → GoesOn node next edge.kind
    onward goes =
        straight_edge node next edge
        (only_edge (edges_of program.code node) (edge_to kinds.Straight (next_node node)) edge k (edges_on program node goes) leaves) arrives

    branch : within.place ≡ within.task.steps + 2 → program.code node.address ≡ Some (back 6) → GoesOn node next edge.kind ⊎ GoesBack tasks node next within
    branch is branches =
        let target = node_at node (moved node.address (negsuc 3)) in
        let untaken = edge_to kinds.Straight (next_node node) in
        let taken = edge_to kinds.Taken target in
        let edges : edges_of program.code node ≡ untaken ∷ taken ∷ [] = rw branches refl in
        let two : within.task.steps + 2 ≡ within.task.steps + 1 + 1 = omega arith in
        elim (either_edge (edges_of program.code node) untaken taken edge k edges leaves) [
          | inl first ↦ inl (straight_edge node next edge first arrives)
          | inr second ↦ let same : target ≡ next = same_Some target next (ap (λ (e : Edge Node). e.to) second ∙ arrives) in
              inr (record {
                from = is;
                to = sym (ap (λ (n : Node). n.address) same)
                    ∙ (ap (λ a. moved a (negsuc 3)) (within.address_is ∙ ap (at within.task) (is ∙ two))
                    ∙ back_address within.task (within.task.steps + 1) placed.high (omega arith));
              })
        ]

    called : program.code node.address ≡ Some Ecall → (service : Option ServiceAt) → service_at program.code node.address ≡ service
        → GoesOn node next edge.kind ⊎ GoesBack tasks node next within
    called calls None is =
        let edges : edges_of program.code node ≡ [] = rw (is, calls) refl in
        absurd (never (ap (λ es. slice_get es k) (sym edges) ∙ leaves))
    called calls (Some service) is =
        let ends = (good program tasks node demo within).ends service is in
        absurd (never (ap (λ (e : Edge Node). e.to) (only_edge (edges_of program.code node) nowhere edge k ends.edges leaves) ∙ arrives))

    by_word : GoesAt program (at within.task within.place) ⊎ ((within.place ≡ within.task.steps + 2) ⊎ (within.place ≡ within.task.steps + 5))
        → GoesOn node next edge.kind ⊎ GoesBack tasks node next within
    by_word (inl goes) = inl (onward (subst (GoesAt program) (sym within.address_is) goes))
    by_word (inr (inl is)) = branch is (tail_here 2 (back 6) is refl)
    by_word (inr (inr is)) = called (tail_here 5 Ecall is refl) (service_at program.code node.address) refl

-- the node to which an edge leads by its number
leads_there : (nodes : List Node) (to : Option Node) (numbered : Option ℕ) (next : ℕ) (target : Node) → numbered ≡ Some next → IsTarget nodes to numbered
    → slice_get nodes next ≡ Some target → to ≡ Some target
leads_there nodes None None next target is leads there = absurd (never is)
leads_there nodes None (Some i) next target is leads there = absurd leads
leads_there nodes (Some node) None next target is leads there = absurd leads
leads_there nodes (Some node) (Some i) next target is leads there = sym leads ∙ (ap (slice_get nodes) (same_Some i next is) ∙ there)

-- the same of an edge of the graph
flow_goes : (tasks : List DemoTask) (flow : Flow) (source target : Node) (kind : EdgeKind) → AreDrawn tasks → IsGraph (the_program tasks) flow
    → HasEdge flow source kind target → (within : IsInTask tasks source) → GoesOn source target kind ⊎ GoesBack tasks source target within
flow_goes tasks flow source target kind drawn graph has within =
    let from = leaving_there (the_program tasks) flow has.number has.leaving graph has.leaves in
    let same : from.mate ≡ source = same_Some from.mate source (sym from.stands ∙ has.stands) in
    let code = (the_program tasks).code in
    let mate = beside (IsEdge flow.nodes) (edges_of code from.mate) has.leaving.edges has.place has.edge from.related.edges_are has.is_edge in
    let leaves : slice_get (edges_of code source) has.place ≡ Some mate.mate =
    subst (λ n. slice_get (edges_of code n) has.place ≡ Some mate.mate) same mate.stands in
    let to : mate.mate.to ≡ Some target = leads_there flow.nodes mate.mate.to has.edge.to has.next target has.arrives mate.related.to_is has.leads in
    let kinds_are : mate.mate.kind ≡ kind = sym mate.related.kind_is ∙ has.kind_is in
    subst (λ k. GoesOn source target k ⊎ GoesBack tasks source target within) kinds_are
    (edge_goes (the_program tasks) tasks source target has.place mate.mate (is_demo tasks drawn) within leaves to)

-- ---- Addresses

-- no address lies among the words of two tasks
one_task : (tasks : List DemoTask) (i j : ℕ) (a b : DemoTask) (address : ℕ) → AreDrawn tasks → slice_get tasks i ≡ Some a → slice_get tasks j ≡ Some b
    → a.entry ≤ address → address < a.entry + 4 * (a.steps + 6) → b.entry ≤ address → address < b.entry + 4 * (b.steps + 6) → a ≡ b
one_task tasks i j a b address drawn there there' low high low' high' = elim (cases_lt i j) [
  | inl below ↦ absurd (let apart = tasks_apart 0 base tasks i j a b drawn.follow there there' below in omega (arith, apart))
  | inr late ↦ elim (cases_lt j i) [
    | inl above ↦ absurd (let apart = tasks_apart 0 base tasks j i b a drawn.follow there' there above in omega (arith, apart))
    | inr early ↦ let same : i ≡ j = omega arith in same_Some a b (sym there ∙ (ap (slice_get tasks) same ∙ there'))
  ]
]

aligned_from : (number entry : ℕ) (tasks : List DemoTask) (k : ℕ) (task : DemoTask) → Follow number entry tasks → entry % 4 ≡ 0 → slice_get tasks k ≡ Some task
    → task.entry % 4 ≡ 0
aligned_from number entry [] k task follow whole there = absurd cc
aligned_from number entry (first ∷ tasks) zero task follow whole there =
    let is : first ≡ task = same_Some first task there in subst (λ (t : DemoTask). t.entry % 4 ≡ 0) is (ap (λ n. n % 4) follow.0.entry_is ∙ whole)
aligned_from number entry (first ∷ tasks) (suc k) task follow whole there =
    aligned_from (number + 1) (entry + 4 * size_of first.steps) tasks k task follow.1 (omega arith) there

aligned : (tasks : List DemoTask) (k : ℕ) (task : DemoTask) → AreDrawn tasks → slice_get tasks k ≡ Some task → task.entry % 4 ≡ 0
aligned tasks k task drawn there = aligned_from 0 base tasks k task drawn.follow refl there

in_bounds : (l : Loop) (address : ℕ) → in_loop l address ≡ true → (l.from ≤ address) × (address ≤ l.to)
in_bounds l address is =
    let parts = and_parts (nat_le l.from address) (nat_le address l.to) is in (leb-true l.from address parts.0, leb-true address l.to parts.1)

out_of_bounds : (l : Loop) (address : ℕ) → (l.from ≤ address → address ≤ l.to → ⊥) → in_loop l address ≡ false
out_of_bounds l address never_there = by (in_loop l address) refl
  where
    by : (b : Bool) → in_loop l address ≡ b → in_loop l address ≡ false
    by true is = let bounds = in_bounds l address is in absurd (never_there bounds.0 bounds.1)
    by false is = is

-- the only word before the loop's branch
word_is : (task : DemoTask) (address : ℕ) → task.entry % 4 ≡ 0 → IsWordIn (loop_of task).from (loop_of task).to address → address ≡ (loop_of task).from
word_is task address whole word = omega (arith, whole, word.low, word.high, word.aligned)

-- ---- How the loop is come into

entry_outside : (tasks : List DemoTask) (i k : ℕ) (other task : DemoTask) → AreDrawn tasks → slice_get tasks i ≡ Some other
    → slice_get tasks k ≡ Some task → in_loop (loop_of task) other.entry ≡ false
entry_outside tasks i k other task drawn there there' =
    out_of_bounds (loop_of task) other.entry
    (λ low high. let same : other ≡ task =
    one_task tasks i k other task other.entry drawn there there' (omega arith) (omega arith) (omega arith) (omega arith) in
    let begin = ap (λ (t : DemoTask). t.entry) same in omega (arith, begin, low))

none_begins : (tasks : List DemoTask) (k : ℕ) (task : DemoTask) → AreDrawn tasks → slice_get tasks k ≡ Some task
    → BeginsNowhere (entries_of (the_image tasks) (the_system tasks)) (in_loop (loop_of task))
none_begins tasks k task drawn there =
    subst (λ entries. BeginsNowhere entries (in_loop (loop_of task))) (sym (entries_are tasks drawn))
    (All-map (λ entry. IfSome entry (λ address. in_loop (loop_of task) address ≡ false)) begins tasks
    (λ i d below. entry_outside tasks i k (slice_index_or tasks i d) task drawn (slice_get-get_or tasks i d below) there))

enters_at_front : (tasks : List DemoTask) (flow : Flow) (k : ℕ) (task : DemoTask) → AreDrawn tasks → IsGraph (the_program tasks) flow
    → slice_get tasks k ≡ Some task → EntersAt flow (in_loop (loop_of task)) (in_loop (loop_of task)) (loop_of task).from
enters_at_front tasks flow k task drawn graph there source target kind has comes outside = by (flow_goes tasks flow source target kind drawn graph has within)
  where
    within : IsInTask tasks source
    within = node_inside tasks flow has.number source drawn graph has.stands

    placed : IsPlaced (the_program tasks).code (the_program tasks).has_word within.task
    placed = (is_demo tasks drawn).placed source.context within.task within.there

    whole : within.task.entry % 4 ≡ 0
    whole = aligned tasks source.context within.task drawn within.there

    begin : task.entry % 4 ≡ 0
    begin = aligned tasks k task drawn there

    bounds : ((loop_of task).from ≤ target.address) × (target.address ≤ (loop_of task).to)
    bounds = in_bounds (loop_of task) target.address comes

    not_there : (loop_of task).from ≤ source.address → source.address ≤ (loop_of task).to → ⊥
    not_there low high = false≢true (sym outside ∙ is_in (loop_of task).from (loop_of task).to source.address low high)

    by : GoesOn source target kind ⊎ GoesBack tasks source target within → GoesOnTo (loop_of task).from source.address kind target.address
    by (inl on) =
        let next : target.address ≡ source.address + 4 = omega (arith, on.to, within.address_is, within.below, placed.high) in
        let before : source.address < (loop_of task).from = elim (cases_lt source.address (loop_of task).from) [
          | inl below ↦ below
          | inr late ↦ absurd (not_there late (omega (arith, bounds.1, next)))
        ] in
        let front : target.address ≡ (loop_of task).from = omega (arith, next, before, bounds.0, whole, begin, within.address_is) in
        record { from = omega (arith, next, front, within.address_is, within.below, placed.high); straight = on.straight; to = front }
    by (inr back) =
        let same : within.task ≡ task =
        one_task tasks source.context k within.task task target.address drawn within.there there
        (omega (arith, back.to)) (omega (arith, back.to)) (omega (arith, bounds.0)) (omega (arith, bounds.1)) in
        let from : source.address ≡ (loop_of task).to = within.address_is ∙ (ap (at within.task) back.from ∙ ap (λ (t : DemoTask). at t (t.steps + 2)) same) in
        absurd (not_there (omega (arith, from)) (omega (arith, from)))

-- ---- The loop

abbrev IsCountedOf : List DemoTask → Flow → Loop → ℕ → Type 0
IsCountedOf tasks flow l bound = IsCounted (insn_at (the_image tasks)) (entries_of (the_image tasks) (the_system tasks)) flow l bound

counted : (tasks : List DemoTask) (flow : Flow) (k : ℕ) (task : DemoTask) → AreDrawn tasks → IsGraph (the_program tasks) flow → slice_get tasks k ≡ Some task
    → IsCountedOf tasks flow (loop_of task) task.bound
counted tasks flow k task drawn graph there = record {
  op = Bne;
  counter = 6;
  limit = 0;
  start = pos (task.bound + 1);
  step = negsuc 0;
  value = pos 0;
  reached = has_node tasks flow k task drawn graph there;
  closes = record {
    offset = negsuc 3;
    branch = placed.insn (task.steps + 2) (back 6) (tail_at task 2);
    compares = tt;
    back = ap (λ n. moved (at task n) (negsuc 3)) two ∙ back_address task (task.steps + 1) placed.high (omega arith);
    counter_counts = λ is. omega (arith, is);
    apart = λ is. omega (arith, is);
  };
  plain = λ address word. record { insn = adds 6 (negsuc 0); decoded = ap code (word_is task address whole word) ∙ counts; plain = refl };
  counts = record {
    place = (loop_of task).from;
    inside = record { low = omega arith; high = omega arith; aligned = omega (arith, whole) };
    counts = counts;
    moves = λ is. absurd cc;
    alone = λ address word writes. word_is task address whole word;
  };
  keeps = inl refl;
  starts = ap code (address_before task task.steps placed.high (omega arith)) ∙ loaded;
  no_entry = none_begins tasks k task drawn there;
  entered = enters_at_front tasks flow k task drawn graph there;
  limit_is = refl;
  limit_loaded = tt;
  rounds = rounds_down task.bound;
}
  where
    code : ℕ → Option Insn
    code = insn_at (the_image tasks)

    placed : IsPlaced (the_program tasks).code (the_program tasks).has_word task
    placed = (is_demo tasks drawn).placed k task there

    whole : task.entry % 4 ≡ 0
    whole = aligned tasks k task drawn there

    two : task.steps + 2 ≡ task.steps + 1 + 1
    two = omega arith

    counts : insn_at (the_image tasks) (loop_of task).from ≡ Some (adds 6 (negsuc 0))
    counts = placed.insn (task.steps + 1) (add 6 6 (negsuc 0)) (tail_at task 1)

    loaded : insn_at (the_image tasks) (at task task.steps) ≡ Some (loads 6 (pos (task.bound + 1)))
    loaded = let none : task.steps + 0 ≡ task.steps = omega arith in
        placed.insn task.steps (add 6 0 (pos (task.bound + 1))) (ap (slice_get (code_of task)) (sym none) ∙ tail_at task 0)

-- ---- All loops

abbrev IsCountedIn : PlantData → Loop → Type 0
IsCountedIn plant l = IsCounted (insn_at plant.image) (entries_of plant.image plant.system) plant.flow l l.bound

all_counted : (tasks : List DemoTask) (flow : Flow) → AreDrawn tasks → IsGraph (the_program tasks) flow
    → All (λ l. IsCountedOf tasks flow l l.bound) (map loop_of tasks)
all_counted tasks flow drawn graph =
    All-map (λ l. IsCountedOf tasks flow l l.bound) loop_of tasks
    (λ k d below. counted tasks flow k (slice_index_or tasks k d) drawn graph (slice_get-get_or tasks k d below))

pub loops_are_counted : (tasks : List DemoTask) (plant : PlantData) (l : Loop) → AreDrawn tasks
    → IsPlantOf (the_image tasks) (the_system tasks) (the_timing tasks) plant → Contains plant.timing.loops l
    → IsCounted (insn_at plant.image) (entries_of plant.image plant.system) plant.flow l l.bound
loops_are_counted tasks plant l drawn is has =
    let same = same_plant plant tasks is.image_is is.system_is is.timing_is in
    let belong = subst IsPlant same is.belong in
    let listed : Contains (map loop_of tasks) l = subst (λ (p : PlantData). Contains p.timing.loops l) same has in
    subst (λ p. IsCountedIn p l) (sym same)
    (All-contains (λ other. IsCountedOf tasks plant.flow other other.bound) (map loop_of tasks) l
    (all_counted tasks plant.flow drawn belong.graph.graph) listed)
