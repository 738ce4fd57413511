-- A generated system has a plant, and its blocks are one for each task.
use Rattle.std.proofs.Common.{◌≡◌, ◌⊎◌, ℕ, zero, suc, ◌+◌, ◌-◌, ◌*◌, ◌<◌, ◌≤◌, Bool, true, false, cond, List, [], ◌∷◌, ◌++◌, length, map, replicate, All, Option, Some, None, inl, inr, refl, sym, ap, ◌∙◌, subst, arith}
use Rattle.std.specs.Prelude.{slice_get, filter_map, option_map, is_some, IsSomeAnd}
use Rattle.std.specs.List.{AllByRecursion, AllZip, range_with_len}
use Rattle.std.proofs.lemmas.List.{length-map}
use Rattle.std.proofs.lemmas.List.Elements.{recursion_from_All}
use Rattle.std.proofs.lemmas.Option.{same_Some, slice_get_within}
use Rattle.rv32_machine.specs.declared.turns.ServiceAt.{ServiceAt}
use Rattle.rv32_machine.specs.Places.{service_at}
use Rattle.flow_graph.specs.declared.edge.Edge.{Edge}
use Rattle.flow_graph.specs.declared.fault.CodeFault.{CodeFault}
use Rattle.flow_graph.specs.declared.fault.CodeFault.TheVariants.{At, Memory}
use Rattle.flow_graph.specs.declared.flow.Flow.{Flow}
use Rattle.flow_graph.specs.declared.flow.Leaving.{Leaving}
use Rattle.flow_graph.specs.declared.node.Node.{Node}
use Rattle.flow_graph.specs.Faults.{fault_of, IsNode}
use Rattle.flow_graph.specs.Graph.{Program, edges_of, entries_of}
use Rattle.flow_graph.specs.Judging.{IsFault, earlier, large, faulty, IsTarget, IsEdge, IsLeaving, IsGraph, early_fault}
use Rattle.wcet_atomic_blocks.specs.Blocks.{onward, successor, beginning_behind, beginnings_of, beginnings_from}
use Rattle.wcet_atomic_blocks.specs.Planting.{HaveMany}
use Rattle.wcet_atomic_blocks.specs.Plants.{HaveFault}
use Rattle.wcet_atomic_blocks.proofs.GraphFacts.{at_slice, Beside, beside}
use Rattle.demo_gen.specs.declared.task.DemoTask.{DemoTask}
use Rattle.demo_gen.specs.Demo.{the_image, the_system, the_timing}
use Rattle.demo_gen.specs.Working.Drawn.{AreDrawn}
use Rattle.demo_gen.proofs.Sets.{each_weaker}
use Rattle.demo_plants.specs.Laws.{HavePlant, HasPlant}
use Rattle.demo_plants.proofs.EntriesOf.{begins, the_program, is_demo, entries_are}
use Rattle.demo_plants.proofs.Faultless.{inside, few_from, no_early}
use Rattle.demo_plants.proofs.NodesOf.{never, IsDemo, IsInTask, nowhere, Terminates, IsGood, good}

every : {A : Type 0} (P : A → Type 0) → ((x : A) → P x) → (xs : List A) → AllByRecursion P xs
every P holds [] = tt
every P holds (x ∷ xs) = (holds x, every P holds xs)

-- ---- No fault

none_of_these : (tasks : List DemoTask) (fault : CodeFault) → AreDrawn tasks
    → IsFault (the_program tasks) (early_fault (the_system tasks) (the_timing tasks) (entries_of (the_image tasks) (the_system tasks))) fault → ⊥
none_of_these tasks fault drawn (earlier _ is) = never (sym (no_early tasks drawn) ∙ is)
none_of_these tasks fault drawn (large _ early many is) =
    let within = each_weaker (IsNode (the_program tasks)) (IsInTask tasks) (λ node reached. inside (the_program tasks) tasks node (is_demo tasks drawn) reached) many.nodes
    (recursion_from_All (IsNode (the_program tasks)) many.nodes many.are.reached) in
    let few = few_from (the_program tasks) tasks 0 many.nodes (is_demo tasks drawn) drawn (omega arith) many.are.order within
    (every (λ (node : Node). 0 ≤ node.address) (λ node. omega arith) many.nodes) in
    omega (arith, few, many.many)
none_of_these tasks fault drawn (faulty _ nodes node kind early are first is) =
    let demo = is_demo tasks drawn in
    never (sym (good (the_program tasks) tasks node demo (inside (the_program tasks) tasks node demo first.reached)).fault ∙ first.has)

no_fault : (tasks : List DemoTask) (fault : CodeFault) → AreDrawn tasks → HaveFault (the_image tasks) (the_system tasks) (the_timing tasks) fault → ⊥
no_fault tasks Memory drawn has = has
no_fault tasks (At kind context address) drawn has = none_of_these tasks (At kind context address) drawn has

-- ---- Blocks

-- the node of that number in a graph stands at a word of a task
pub node_inside : (tasks : List DemoTask) (flow : Flow) (number : ℕ) (node : Node) → AreDrawn tasks → IsGraph (the_program tasks) flow → slice_get flow.nodes number ≡ Some node
    → IsInTask tasks node
node_inside tasks flow number node drawn graph at =
    inside (the_program tasks) tasks node (is_demo tasks drawn) (at_slice (IsNode (the_program tasks)) flow.nodes number node graph.nodes.are.reached at)

-- the service at a node terminates the task
pub service_ends : (tasks : List DemoTask) (flow : Flow) (number : ℕ) (leaving : Leaving) (service : ServiceAt) → AreDrawn tasks → IsGraph (the_program tasks) flow
    → slice_get flow.leaving number ≡ Some leaving → leaving.service ≡ Some service → service ≡ record { number = 2; argument = 0 }
service_ends tasks flow number leaving service drawn graph at is =
    let from = beside (IsLeaving (the_program tasks) flow.nodes) flow.nodes flow.leaving number leaving graph.leaving at in
    let found = good (the_program tasks) tasks from.mate (is_demo tasks drawn) (node_inside tasks flow number from.mate drawn graph from.stands) in
    (found.ends service (sym from.related.service_is ∙ is)).is

nothing_there : (nodes : List Node) (to : Option Node) (number : Option ℕ) → to ≡ None → IsTarget nodes to number → number ≡ None
nothing_there nodes to None is target = refl
nothing_there nodes to (Some i) is target = absurd (subst (λ t. IsTarget nodes t (Some i)) is target)

leads_nowhere : (nodes : List Node) (edges : List (Edge Node)) (numbered : List (Edge ℕ)) (e : Edge ℕ) → edges ≡ nowhere ∷ [] → AllZip (IsEdge nodes) edges numbered
    → slice_get numbered 0 ≡ Some e → e.to ≡ None
leads_nowhere nodes edges numbered e are zip at =
    let from = beside (IsEdge nodes) edges numbered 0 e zip at in
    let is : nowhere ≡ from.mate = same_Some nowhere from.mate (sym (ap (λ es. slice_get es 0) are) ∙ from.stands) in
    nothing_there nodes from.mate.to e.to (sym (ap (λ (x : Edge Node). x.to) is)) from.related.to_is

goes_nowhere : (tasks : List DemoTask) (flow : Flow) (number : ℕ) (leaving : Leaving) → AreDrawn tasks → IsGraph (the_program tasks) flow → slice_get flow.leaving number ≡ Some leaving
    → onward leaving ≡ None
goes_nowhere tasks flow number leaving drawn graph at = by_service leaving.service refl
  where
    from : Beside (IsLeaving (the_program tasks) flow.nodes) flow.nodes number leaving
    from = beside (IsLeaving (the_program tasks) flow.nodes) flow.nodes flow.leaving number leaving graph.leaving at

    by_edge : (o : Option (Edge ℕ)) → slice_get leaving.edges 0 ≡ o → ((e : Edge ℕ) → slice_get leaving.edges 0 ≡ Some e → e.to ≡ None)
        → Rattle.std.specs.Prelude.option_and_then (λ (edge : Edge ℕ). edge.to) (slice_get leaving.edges 0) ≡ None
    by_edge None is ends = rw is refl
    by_edge (Some e) is ends = rw is (ends e is)

    by_service : (o : Option ServiceAt) → leaving.service ≡ o → onward leaving ≡ None
    by_service None is = rw is refl
    by_service (Some service) is =
        let found = good (the_program tasks) tasks from.mate (is_demo tasks drawn) (node_inside tasks flow number from.mate drawn graph from.stands) in
        let ends = found.ends service (sym from.related.service_is ∙ is) in
        rw is (by_edge (slice_get leaving.edges 0) refl (λ e there. leads_nowhere flow.nodes (edges_of (the_program tasks).code from.mate) leaving.edges e ends.edges from.related.edges_are there))

pub no_successor : (tasks : List DemoTask) (flow : Flow) (number : ℕ) → AreDrawn tasks → IsGraph (the_program tasks) flow → successor flow number ≡ None
no_successor tasks flow number drawn graph = by_leaving (slice_get flow.leaving number) refl
  where
    by_leaving : (o : Option Leaving) → slice_get flow.leaving number ≡ o → successor flow number ≡ None
    by_leaving None is = rw is refl
    by_leaving (Some leaving) is = rw is (goes_nowhere tasks flow number leaving drawn graph is)

none_chosen : {A B : Type 0} (h : A → Option B) → ((x : A) → h x ≡ None) → (xs : List A) → filter_map h xs ≡ []
none_chosen h none [] = refl
none_chosen h none (x ∷ xs) = rw (none x, none_chosen h none xs) refl

either_none : {A : Type 0} (b : Bool) → cond {A = Option A} b None None ≡ None
either_none true = refl
either_none false = refl

none_behind : (tasks : List DemoTask) (flow : Flow) (context number : ℕ) → AreDrawn tasks → IsGraph (the_program tasks) flow → beginning_behind flow context number ≡ None
none_behind tasks flow context number drawn graph = rw (no_successor tasks flow number drawn graph) (either_none _)

-- each context has one block
pub owners_are : (tasks : List DemoTask) (flow : Flow) (from : ℕ) (entries : List ℕ) → AreDrawn tasks → IsGraph (the_program tasks) flow
    → map (λ b. b.owner) (beginnings_from flow from entries) ≡ range_with_len from (length entries)
owners_are tasks flow from [] drawn graph = refl
owners_are tasks flow from (e ∷ entries) drawn graph =
    let next : suc from ≡ from + 1 = omega arith in
    rw (none_chosen (beginning_behind flow from) (λ number. none_behind tasks flow from number drawn graph) (range_with_len 0 (length flow.nodes)))
    (ap (λ rest. from ∷ rest) (owners_are tasks flow (suc from) entries drawn graph ∙ ap (λ n. range_with_len n (length entries)) next))

pub one_for_each : (tasks : List DemoTask) (flow : Flow) (from : ℕ) (entries : List ℕ) → AreDrawn tasks → IsGraph (the_program tasks) flow
    → length (beginnings_from flow from entries) ≡ length entries
one_for_each tasks flow from [] drawn graph = refl
one_for_each tasks flow from (e ∷ entries) drawn graph =
    rw (none_chosen (beginning_behind flow from) (λ number. none_behind tasks flow from number drawn graph) (range_with_len 0 (length flow.nodes)))
    (ap suc (one_for_each tasks flow (suc from) entries drawn graph))

pub entry_count : (tasks : List DemoTask) → AreDrawn tasks → length (entries_of (the_image tasks) (the_system tasks)) ≡ length tasks
entry_count tasks drawn = ap length (entries_are tasks drawn) ∙ length-map tasks begins

not_many : (tasks : List DemoTask) (count : ℕ) → AreDrawn tasks → HaveMany (the_image tasks) (the_system tasks) (the_timing tasks) count → ⊥
not_many tasks count drawn many =
    let entries = many.many.entries in
    let blocks = one_for_each tasks many.flow 0 entries drawn many.graph.graph in
    omega (arith, many.many.many, many.many.count_is, blocks, many.many.entered.count, entry_count tasks drawn, drawn.few)

pub has_plant : (tasks : List DemoTask) → AreDrawn tasks → HasPlant tasks
has_plant tasks drawn = record { faultless = λ fault has. no_fault tasks fault drawn has; few = λ count many. not_many tasks count drawn many }
