-- An instruction step keeps what is counted of a loop.
use Rattle.std.proofs.Common.{◌≡◌, ℕ, zero, suc, ◌+◌, ◌≤◌, Bool, true, false, cond, List, [], ◌∷◌, ◌++◌, length, Option, Some, None, refl, sym, ◌∙◌, ap, subst, arith}
use Rattle.std.specs.Prelude.{◌==◌, slice_index_or, sum_by, option_map, option_to_list}
use Rattle.std.specs.List.{AllByRecursion}
use Rattle.std.proofs.lemmas.Bool.{eq-eqb}
use Rattle.std.proofs.lemmas.List.Elements.{All-from_recursion}
use Rattle.std.proofs.lemmas.Option.{same_Some}
use Rattle.rv32_machine.specs.Code.{insn_at}
use Rattle.rv32_machine.specs.Places.{turn_at}
use Rattle.timing_file.specs.declared.timing.Loop.{Loop}
use Rattle.osek_kernel.specs.declared.context.Context.{Context}
use Rattle.osek_kernel.specs.Contexts.{IsContext, place_of, context_at}
use Rattle.osek_kernel.specs.Positions.{position_of, placed}
use Rattle.osek_machine.specs.State.{MachineState, standing_of}
use Rattle.osek_machine.specs.Events.{Execution, Event, Execute}
use Rattle.osek_machine.specs.Loops.{laps_of, same_context, turned}
use Rattle.osek_machine.specs.Steps.{Executes}
use Rattle.osek_machine.proofs.Kept.{running_exists}
use Rattle.osek_machine.proofs.Placing.{placed_here}
use Rattle.flow_graph.specs.declared.node.Node.{Node}
use Rattle.wcet_atomic_blocks.specs.Loops.{is_back, is_entering}
use Rattle.wcet_atomic_blocks.specs.Plants.{PlantData}
use Rattle.wcet_atomic_blocks.proofs.GraphFacts.{at_slice}
use Rattle.abstract_sched.specs.declared.states.AbsState.{AbsState}
use Rattle.row_build.specs.Columns.{Along, Column, Goes}
use Rattle.row_build.specs.Families.{is_listed_edge}
use Rattle.activation_windows.specs.Windows.{along_of, used_by}
use Rattle.activation_windows.proofs.Beyond.{beyond}
use Rattle.activation_windows.proofs.Circling.{Circles, circles_enter, circles_more, circles_round}
use Rattle.activation_windows.proofs.EdgesTaken.{TakesEdge}
use Rattle.activation_windows.proofs.Induction.{IsLater, covers_of, same_itself, this_is}
use Rattle.activation_windows.proofs.Instances.{along_in, listed_passes, passes_listed}
use Rattle.activation_windows.proofs.Laps.{Turns, has_laps, placed_other, turns_in}
use Rattle.activation_windows.proofs.Lasting.{edge_in}
use Rattle.activation_windows.proofs.Nodes.{context_there}
use Rattle.activation_windows.proofs.OwnVisits.{backs_count, entries_count, inside_context, none_one}
use Rattle.activation_windows.proofs.Rounds.{GoesRound, laps_at}
use Rattle.activation_windows.proofs.RoundSteps.{IsInstance, its, Rounds, circles_as}
use Rattle.activation_windows.proofs.Sums.{one, sum_option, sum_with}
use Rattle.activation_windows.proofs.Turning.{back_inside, enters_not_back, turn_edge, turned_by}

-- ---- No invocation goes round more often than the bound

few_by : (laps : List ℕ) (bound n : ℕ) → AllByRecursion (λ lap. lap ≤ bound) laps → slice_index_or laps n 0 ≤ bound
few_by [] bound n all = omega arith
few_by (lap ∷ laps) bound zero all = all.0
few_by (lap ∷ laps) bound (suc n) all = few_by laps bound n all.1

pub few_laps : (plant : PlantData) (states : List AbsState) (task mode : ℕ) (head : Node) (declared : ℕ) (l : Loop) (own : Context) (event : Event)
    (earlier : List Event) (before after : MachineState)
    → IsInstance plant head declared l own → IsLater plant states task mode event earlier before after
    → (rest : List ℕ) → laps_at (laps_of plant.image l own (event ∷ earlier)) rest ≤ l.bound
few_laps plant states task mode head declared l own event earlier before after is later rest =
    few_by (laps_of plant.image l own (event ∷ earlier)) l.bound (length rest)
    (at_slice (λ (d : Loop). AllByRecursion (λ laps. laps ≤ d.bound) (laps_of plant.image d own (event ∷ earlier))) plant.timing.loops declared l
    (All-from_recursion (λ (d : Loop). AllByRecursion (λ laps. laps ≤ d.bound) (laps_of plant.image d own (event ∷ earlier))) plant.timing.loops
    (later.declared.loops.0 own)) is.there)

-- ---- What an edge counts

same_tests : (a b : Bool) → (a ≡ true → b ≡ true) → (b ≡ true → a ≡ true) → a ≡ b
same_tests true true f g = refl
same_tests false false f g = refl
same_tests true false f g = sym (f refl)
same_tests false true f g = g refl

goes_sum : (plant : PlantData) (mode : ℕ) (execution : Execution) (earlier : List Event) (takes : TakesEdge plant execution) (count : Column → ℕ)
    (uses : List Column)
    → sum_by count (option_to_list (used_by plant mode (Execute execution) earlier) ++ uses) ≡ count (Goes (along_in plant execution takes)) + sum_by count uses
goes_sum plant mode execution earlier takes count uses =
    sum_with count (option_map Goes (along_of plant execution)) uses
    ∙ ap (λ (o : Option Along). sum_option count (option_map Goes o) + sum_by count uses) takes.along

round_as : (l : Loop) (from from' to to' : ℕ) (b b' a a' : Option (List ℕ)) (laps laps' laps'' : List ℕ) (back : Bool)
    → from ≡ from' → to ≡ to' → b ≡ b' → a ≡ a' → laps' ≡ laps'' → GoesRound l from to b a laps laps' back → GoesRound l from' to' b' a' laps laps'' back
round_as l from from' to to' b b' a a' laps laps' laps'' back fs ts bs ats ls round =
    subst (λ (n : ℕ). GoesRound l n to' b' a' laps laps'' back) fs
    (subst (λ (n : ℕ). GoesRound l from n b' a' laps laps'' back) ts
    (subst (λ (o : Option (List ℕ)). GoesRound l from to o a' laps laps'' back) bs
    (subst (λ (o : Option (List ℕ)). GoesRound l from to b o laps laps'' back) ats
    (subst (λ (ns : List ℕ). GoesRound l from to b a laps ns back) ls round))))

-- ---- The loop's own context executes an instruction

own_edge : (plant : PlantData) (states : List AbsState) (task mode : ℕ) (head : Node) (declared : ℕ) (l : Loop) (own : Context) (execution : Execution)
    (earlier : List Event) (before after : MachineState) (uses : List Column)
    → IsInstance plant head declared l own → IsLater plant states task mode (Execute execution) earlier before after
    → same_context own execution.context ≡ true → (takes : TakesEdge plant execution) → Turns plant execution takes
    → Circles l head.sites l.bound (sum_by (backs_count (its plant head declared l)) uses) (sum_by (entries_count (its plant head declared l)) uses)
    (laps_of plant.image l own earlier) (Some execution.before) 0
    → (enters : Bool) → is_entering head l takes.at.node takes.edge.kind takes.next ≡ enters
    → Circles l head.sites l.bound
    (sum_by (backs_count (its plant head declared l)) (option_to_list (used_by plant mode (Execute execution) earlier) ++ uses))
    (sum_by (entries_count (its plant head declared l)) (option_to_list (used_by plant mode (Execute execution) earlier) ++ uses))
    (laps_of plant.image l own (Execute execution ∷ earlier)) (Some execution.after) 0
own_edge plant states task mode head declared l own execution earlier before after uses is later mine takes turns circles true enters =
    let instance = its plant head declared l in
    let along = along_in plant execution takes in
    let backs = goes_sum plant mode execution earlier takes (backs_count instance) uses in
    let entries = goes_sum plant mode execution earlier takes (entries_count instance) uses in
    let listed = ap one (passes_listed plant execution takes (is_entering head l) enters) in
    let none = none_one (is_listed_edge instance.backs along)
    (λ back. let wrong : true ≡ false = sym (listed_passes plant execution takes (is_back head l) back)
    ∙ enters_not_back head l takes.at.node takes.next takes.edge.kind enters in cc) in
    circles_as l head.sites l.bound _ _ _ _ _ _ _ _ 0 0 (omega arith) (omega arith) refl refl refl
    (circles_enter l head.sites l.bound (sum_by (backs_count instance) uses) (sum_by (entries_count instance) uses)
    (entries_count instance (Goes along)) (laps_of plant.image l own earlier) (laps_of plant.image l own (Execute execution ∷ earlier))
    (Some execution.before) (Some execution.after) 0 (omega arith) circles)
own_edge plant states task mode head declared l own execution earlier before after uses is later mine takes turns circles false enters =
    let step : Executes plant.image plant.system execution before after = later.step in
    let instance = its plant head declared l in
    let along = along_in plant execution takes in
    let laps = laps_of plant.image l own earlier in
    let who : execution.context ≡ own = same_Some execution.context own (this_is own (Some execution.context) mine) in
    let backs = goes_sum plant mode execution earlier takes (backs_count instance) uses in
    let entries = goes_sum plant mode execution earlier takes (entries_count instance) uses in
    let own_place : head.context ≡ takes.at.node.context = is.place ∙ (ap (place_of plant.system) (sym who) ∙ sym takes.at.context_is) in
    let here : (head.context == takes.at.node.context) ≡ true = eq-eqb head.context takes.at.node.context own_place in
    let there : (head.context == takes.next.context) ≡ true = eq-eqb head.context takes.next.context (own_place ∙ sym takes.context_is) in
    let count : length laps ≡ length execution.before.calls + 1 =
    has_laps plant states task mode l earlier before later.case own execution.before is.exists (ap (standing_of plant.system before) (sym who) ∙ step.stands) in
    let calls = ap length takes.at.stands.calls_are in
    let laps_are : turned_by l turns.turn takes.at.node takes.next laps ≡ laps_of plant.image l own (Execute execution ∷ earlier) =
    sym (ap (λ b. cond b (turned l (turn_at (insn_at plant.image) execution.before.place) execution laps) laps) mine ∙ turns.laps_are l laps) in
    let round = turn_edge head l takes.at.node takes.next takes.edge.kind turns.turn laps here there turns.fits turns.sites turns.paired (omega arith) enters in
    let goes : GoesRound l execution.before.place execution.after.place (beyond head.sites execution.before.calls) (beyond head.sites execution.after.calls)
    laps (laps_of plant.image l own (Execute execution ∷ earlier)) (is_back head l takes.at.node takes.edge.kind takes.next) =
    round_as l _ _ _ _ _ _ _ _ laps _ _ (is_back head l takes.at.node takes.edge.kind takes.next) (sym takes.at.stands.place_is) (sym takes.stands.place_is)
    (ap (beyond head.sites) (sym takes.at.stands.calls_are)) (ap (beyond head.sites) (sym takes.stands.calls_are)) laps_are round in
    let back = ap one (same_tests (is_listed_edge instance.backs along) (is_back head l takes.at.node takes.edge.kind takes.next)
    (listed_passes plant execution takes (is_back head l)) (passes_listed plant execution takes (is_back head l))) in
    circles_as l head.sites l.bound _ _ _ _ _ _ _ _ 0 0 (omega arith) (omega arith) refl refl refl
    (circles_more l head.sites l.bound
    (sum_by (backs_count instance) uses + one (is_back head l takes.at.node takes.edge.kind takes.next)) (sum_by (entries_count instance) uses)
    (entries_count instance (Goes along)) (laps_of plant.image l own (Execute execution ∷ earlier)) (Some execution.after) 0
    (circles_round l head.sites l.bound (sum_by (backs_count instance) uses) (sum_by (entries_count instance) uses) laps
    (laps_of plant.image l own (Execute execution ∷ earlier)) execution.before execution.after
    (is_back head l takes.at.node takes.edge.kind takes.next) 0 goes
    (few_laps plant states task mode head declared l own (Execute execution) earlier before after is later) circles))

pub execute_rounds : (plant : PlantData) (states : List AbsState) (task mode : ℕ) (head : Node) (declared : ℕ) (l : Loop) (own : Context)
    (execution : Execution) (earlier : List Event) (before after : MachineState) (uses : List Column) (waiting : List (Option Column))
    → IsInstance plant head declared l own → IsLater plant states task mode (Execute execution) earlier before after
    → position_of plant.system waiting execution.context ≡ None
    → Rounds plant head declared l own earlier before uses waiting → (mine : Bool) → same_context own execution.context ≡ mine
    → Rounds plant head declared l own (Execute execution ∷ earlier) after
    (option_to_list (used_by plant mode (Execute execution) earlier) ++ uses) waiting
execute_rounds plant states task mode head declared l own execution earlier before after uses waiting is later ran rounds true mine =
    let step : Executes plant.image plant.system execution before after = later.step in
    let all = covers_of plant states task mode earlier before later.case in
    let instance = its plant head declared l in
    let takes = edge_in plant states task mode execution earlier before after later in
    let turns = turns_in plant states task mode execution earlier before after later takes in
    let who : execution.context ≡ own = same_Some execution.context own (this_is own (Some execution.context) mine) in
    let stood : standing_of plant.system before own ≡ Some execution.before = ap (standing_of plant.system before) (sym who) ∙ step.stands in
    let stands : standing_of plant.system after own ≡ Some execution.after =
    ap (λ (s : MachineState). standing_of plant.system s own) step.becomes
    ∙ (ap (position_of plant.system (placed plant.system execution.context (Some execution.after) before.standings)) (sym who)
    ∙ placed_here plant.system execution.context (Some execution.after) before.standings
    (running_exists plant.system before execution.context all.room step.running) all.room.positions.count) in
    let gone : sum_option (entries_count instance) (position_of plant.system waiting own) ≡ 0 =
    ap (sum_option (entries_count instance)) (ap (position_of plant.system waiting) (sym who) ∙ ran) in
    circles_as l head.sites l.bound _ _ _ _ _ _ _ _ _ _ refl refl refl (sym stands) (sym gone)
    (own_edge plant states task mode head declared l own execution earlier before after uses is later mine takes turns
    (circles_as l head.sites l.bound _ _ _ _ _ _ _ _ _ _ refl refl refl stood gone rounds)
    (is_entering head l takes.at.node takes.edge.kind takes.next) refl)
execute_rounds plant states task mode head declared l own execution earlier before after uses waiting is later ran rounds false mine =
    let step : Executes plant.image plant.system execution before after = later.step in
    let all = covers_of plant states task mode earlier before later.case in
    let instance = its plant head declared l in
    let takes = edge_in plant states task mode execution earlier before after later in
    let along = along_in plant execution takes in
    let there : IsContext plant.system execution.context = running_exists plant.system before execution.context all.room step.running in
    let laps = laps_of plant.image l own earlier in
    let backs = goes_sum plant mode execution earlier takes (backs_count instance) uses in
    let entries = goes_sum plant mode execution earlier takes (entries_count instance) uses in
    let none = none_one (is_listed_edge instance.backs along)
    (λ back. let at : head.context ≡ takes.at.node.context = inside_context head l takes.at.node
    (back_inside head l takes.at.node takes.next takes.edge.kind (listed_passes plant execution takes (is_back head l) back)) in
    let same : own ≡ execution.context = sym (ap (context_at plant.system) is.place ∙ context_there plant.system own is.exists)
    ∙ (ap (context_at plant.system) (at ∙ takes.at.context_is) ∙ context_there plant.system execution.context there) in
    let wrong : true ≡ false = sym (ap (same_context own) (sym same) ∙ same_itself own) ∙ mine in cc) in
    let stands : standing_of plant.system before own ≡ standing_of plant.system after own =
    sym (ap (λ (s : MachineState). standing_of plant.system s own) step.becomes
    ∙ placed_other plant.system execution.context own (Some execution.after) before.standings is.exists there mine) in
    let same_laps : laps ≡ laps_of plant.image l own (Execute execution ∷ earlier) =
    sym (ap (λ b. cond b (turned l (turn_at (insn_at plant.image) execution.before.place) execution laps) laps) mine) in
    circles_as l head.sites l.bound _ _ _ _ _ _ _ _ _ _ (omega arith) (omega arith) same_laps stands refl
    (circles_more l head.sites l.bound (sum_by (backs_count instance) uses) (sum_by (entries_count instance) uses)
    (entries_count instance (Goes along)) laps (standing_of plant.system before own)
    (sum_option (entries_count instance) (position_of plant.system waiting own)) rounds)
