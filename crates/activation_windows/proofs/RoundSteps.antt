-- Each step of a window keeps what is counted of a loop.
use Rattle.std.proofs.Common.{◌≡◌, ℕ, ◌+◌, ◌*◌, ◌≤◌, Bool, true, false, List, [], ◌∷◌, ◌++◌, length, Option, Some, None, refl, sym, ◌∙◌, ap, subst, arith}
use Rattle.std.specs.Prelude.{◌==◌, ◌&&◌, slice_get, sum_by, option_map, option_to_list}
use Rattle.std.specs.Option.{option_map_or}
use Rattle.std.proofs.lemmas.Bool.{eq-eqb}
use Rattle.std.proofs.lemmas.Option.{none-some, same_Some, slice_get_within}
use Rattle.rv32_machine.specs.ContextStep.{Standing}
use Rattle.timing_file.specs.declared.timing.Loop.{Loop}
use Rattle.osek_kernel.specs.declared.context.Context.{Context}
use Rattle.osek_kernel.specs.Contexts.{IsContext, place_of, context_at, entry_of}
use Rattle.osek_kernel.specs.Positions.{position_of, placed}
use Rattle.osek_machine.specs.State.{MachineState, standing_of, standing_at, at_entry}
use Rattle.osek_machine.specs.Events.{Event}
use Rattle.osek_machine.specs.Loops.{laps_of, same_context}
use Rattle.flow_graph.specs.declared.node.Node.{Node}
use Rattle.flow_graph.specs.Faults.{entry_in}
use Rattle.flow_graph.specs.Graph.{entries_of}
use Rattle.wcet_atomic_blocks.specs.declared.block.Block.{Block}
use Rattle.wcet_atomic_blocks.specs.declared.loops.LoopInstance.{LoopInstance}
use Rattle.wcet_atomic_blocks.specs.Loops.{block_enters, begins_outside, enters, in_range, instance_of, is_inside}
use Rattle.wcet_atomic_blocks.specs.Plants.{PlantData, IsPlant, IsEntryNode}
use Rattle.abstract_sched.specs.declared.states.AbsState.{AbsState}
use Rattle.scheduler_moves.specs.declared.moves.MoveLabel.{MoveLabel}
use Rattle.row_build.specs.Columns.{Column, Going, Moves, Begins}
use Rattle.row_build.specs.Families.{is_listed}
use Rattle.shadow_runs.specs.Shadow.{begun}
use Rattle.shadow_runs.proofs.Planted.{has_entry_block}
use Rattle.activation_windows.specs.Counted.{IsDeclaredCase}
use Rattle.activation_windows.specs.Windows.{Window, entered, run_in, running_after}
use Rattle.activation_windows.proofs.Beyond.{beyond, lies_by}
use Rattle.activation_windows.proofs.Circling.{Circles, circles_gone, circles_fresh, circles_run}
use Rattle.activation_windows.proofs.InBlocks.{Wait}
use Rattle.activation_windows.proofs.Induction.{this_is, same_itself}
use Rattle.activation_windows.proofs.Instances.{number_listed}
use Rattle.activation_windows.proofs.Laps.{placed_other}
use Rattle.activation_windows.proofs.Nodes.{context_there, entry_at}
use Rattle.activation_windows.proofs.OwnVisits.{backs_count, entries_count, visit_backs, other_entries}
use Rattle.activation_windows.proofs.Rounds.{inside_where}
use Rattle.activation_windows.proofs.Sums.{one, sum_option, sum_with}
use Rattle.graph_runs.proofs.Entries.{entry_is}
use Rattle.activation_windows.proofs.Windows.{runner_exists}
use Rattle.osek_machine.proofs.Placing.{placed_here}

-- A loop instance of the plant: its string is the head's, and its context exists.
pub record IsInstance (plant : PlantData) (head : Node) (declared : ℕ) (l : Loop) (own : Context) : Type 0 where
  pub exists : IsContext plant.system own
  pub place : head.context ≡ place_of plant.system own
  pub there : slice_get plant.timing.loops declared ≡ Some l

abbrev pub its : PlantData → Node → ℕ → Loop → LoopInstance
its plant head declared l = instance_of plant.flow plant.blocks.blocks head declared l

-- what is counted of it
abbrev pub Rounds : PlantData → Node → ℕ → Loop → Context → List Event → MachineState → List Column → List (Option Column) → Type 0
Rounds plant head declared l own events state uses waiting =
    Circles l head.sites l.bound (sum_by (backs_count (its plant head declared l)) uses) (sum_by (entries_count (its plant head declared l)) uses)
    (laps_of plant.image l own events) (standing_of plant.system state own)
    (sum_option (entries_count (its plant head declared l)) (position_of plant.system waiting own))

pub circles_as : (l : Loop) (sites : List ℕ) (bound b b' e e' : ℕ) (laps laps' : List ℕ) (at at' : Option Standing) (v v' : ℕ)
    → b ≡ b' → e ≡ e' → laps ≡ laps' → at ≡ at' → v ≡ v' → Circles l sites bound b e laps at v → Circles l sites bound b' e' laps' at' v'
circles_as l sites bound b b' e e' laps laps' at at' v v' bs es ls ats vs circles =
    subst (λ (n : ℕ). Circles l sites bound n e' laps' at' v') bs
    (subst (λ (n : ℕ). Circles l sites bound b n laps' at' v') es
    (subst (λ (ns : List ℕ). Circles l sites bound b e ns at' v') ls
    (subst (λ (s : Option Standing). Circles l sites bound b e laps s v') ats
    (subst (λ (n : ℕ). Circles l sites bound b e laps at n) vs circles))))

-- ---- The visit of the context that runs is used

none_of : (count : Column → ℕ) (visit : Option Column) → ((c : Column) → visit ≡ Some c → count c ≡ 0) → sum_option count visit ≡ 0
none_of count None none = refl
none_of count (Some c) none = none c refl

pub run_rounds : (plant : PlantData) (states : List AbsState) (task mode : ℕ) (head : Node) (declared : ℕ) (l : Loop) (own : Context) (events : List Event)
    (state : MachineState) (window : Window)
    → IsInstance plant head declared l own → IsDeclaredCase plant states task mode events state → Wait plant (begun plant mode events) window.waiting
    → Rounds plant head declared l own events state window.uses window.waiting → (who : Option Context) → running_after plant mode events ≡ who
    → Rounds plant head declared l own events state (run_in plant who window).uses (run_in plant who window).waiting
run_rounds plant states task mode head declared l own events state window is case waits rounds None runs = rounds
run_rounds plant states task mode head declared l own events state window is case waits rounds (Some d) runs =
    choose (same_context own d) refl
  where
    backs : sum_by (backs_count (its plant head declared l)) window.uses
        ≡ sum_by (backs_count (its plant head declared l)) (run_in plant (Some d) window).uses
    backs =
        let all = sum_with (backs_count (its plant head declared l)) (position_of plant.system window.waiting d) window.uses in
        let none = none_of (backs_count (its plant head declared l)) (position_of plant.system window.waiting d)
        (λ c e. visit_backs plant (position_of plant.system (begun plant mode events) d) d (its plant head declared l) c
        (waits.visits d c (runner_exists plant states task mode events state d case runs) e)) in
        omega arith

    choose : (same : Bool) → same_context own d ≡ same
        → Rounds plant head declared l own events state (run_in plant (Some d) window).uses (run_in plant (Some d) window).waiting
    choose true e =
        let same : d ≡ own = same_Some d own (this_is own (Some d) e) in
        let entries : sum_by (entries_count (its plant head declared l)) window.uses
        + sum_option (entries_count (its plant head declared l)) (position_of plant.system window.waiting own)
        ≡ sum_by (entries_count (its plant head declared l)) (run_in plant (Some d) window).uses =
        (let all = sum_with (entries_count (its plant head declared l)) (position_of plant.system window.waiting d) window.uses in
        let here = ap (λ (c : Context). sum_option (entries_count (its plant head declared l))
        (position_of plant.system window.waiting c)) same in omega arith) in
        let gone : position_of plant.system (placed plant.system d None window.waiting) own ≡ None =
        ap (position_of plant.system (placed plant.system d None window.waiting)) (sym same)
        ∙ placed_here plant.system d None window.waiting (runner_exists plant states task mode events state d case runs) waits.count in
        circles_as l head.sites l.bound _ _ _ _ _ _ _ _ _ _ backs entries refl refl
        (ap (sum_option (entries_count (its plant head declared l))) (sym gone))
        (circles_run l head.sites l.bound _ _ _ _ _ rounds)
    choose false e =
        let other = (λ (at : context_at plant.system head.context ≡ d).
        absurd (let same : own ≡ d = sym (ap (context_at plant.system) is.place ∙ context_there plant.system own is.exists) ∙ at in
        let wrong : true ≡ false = sym (ap (same_context own) (sym same) ∙ same_itself own) ∙ e in cc)) in
        let none = none_of (entries_count (its plant head declared l)) (position_of plant.system window.waiting d)
        (λ c at. other_entries plant states task mode events state head declared l d c case runs
        (waits.visits d c (runner_exists plant states task mode events state d case runs) at) other) in
        let entries : sum_by (entries_count (its plant head declared l)) window.uses
        ≡ sum_by (entries_count (its plant head declared l)) (run_in plant (Some d) window).uses =
        (let all = sum_with (entries_count (its plant head declared l)) (position_of plant.system window.waiting d) window.uses in omega arith) in
        circles_as l head.sites l.bound _ _ _ _ _ _ _ _ _ _ backs entries refl refl
        (ap (sum_option (entries_count (its plant head declared l)))
        (sym (placed_other plant.system d own None window.waiting is.exists (runner_exists plant states task mode events state d case runs) e))) rounds

-- ---- The context starts

beyond_nothing : (sites rest : List ℕ) → beyond sites [] ≡ Some rest → (beyond sites [] ≡ Some []) × (rest ≡ [])
beyond_nothing [] rest e = (refl, sym (same_Some [] rest e))
beyond_nothing (site ∷ sites) rest e = absurd (none-some rest e)

entry_enters : (plant : PlantData) → IsPlant plant → (head : Node) (declared : ℕ) (l : Loop) (own : Context) → IsInstance plant head declared l own
    → (place : ℕ) → entry_of plant.image plant.system own ≡ Some place → beyond head.sites [] ≡ Some [] → in_range l place ≡ true
    → sum_option (entries_count (its plant head declared l)) (entered plant own) ≡ 1
entry_enters plant is head declared l own instance place at string inside =
    let has = has_entry_block plant is own instance.exists in
    let first : IsEntryNode (entries_of plant.image plant.system) plant.flow (place_of plant.system own) has.block.begin.first = has.begins.first in
    let there : entry_in (entries_of plant.image plant.system) first.node.context ≡ Some place =
    ap (entry_in (entries_of plant.image plant.system)) first.context_is ∙ (entry_is plant.image plant.system plant.timing own instance.exists ∙ at) in
    let entry = entry_at (entries_of plant.image plant.system) first.node.sites first.node.address first.node.context place there first.is_entry in
    let context : (head.context == first.node.context) ≡ true = eq-eqb head.context first.node.context (instance.place ∙ sym first.context_is) in
    let passes : is_inside head l first.node ≡ true =
    inside_where head l first.node context (ap (beyond head.sites) entry.0 ∙ string) (ap (in_range l) entry.1 ∙ inside) in
    let enters_it : block_enters plant.flow plant.blocks.blocks head l has.number ≡ true =
    ap (λ (o : Option Block). option_map_or (λ b. enters plant.flow head l b.begin) o false) has.there
    ∙ (ap (λ (o : Option Node). option_map_or (is_inside head l) o false && begins_outside plant.flow l has.block.begin.after) first.stands
    ∙ (ap (λ b. b && begins_outside plant.flow l has.block.begin.after) passes
    ∙ ap (begins_outside plant.flow l) has.begins.after)) in
    let listed : is_listed (its plant head declared l).blocks has.number ≡ true =
    number_listed (block_enters plant.flow plant.blocks.blocks head l) (length plant.blocks.blocks) has.number
    (slice_get_within plant.blocks.blocks has.number has.block has.there) enters_it in
    ap (λ (o : Option ℕ). sum_option (entries_count (its plant head declared l)) (option_map Begins o)) has.entered
    ∙ (let counts = ap one listed in omega arith)

pub start_rounds : (plant : PlantData) → IsPlant plant → (head : Node) (declared : ℕ) (l : Loop) (own : Context) → IsInstance plant head declared l own
    → (registers : List ℕ) (backs entries : ℕ) (laps : List ℕ) → backs ≤ l.bound * entries
    → Circles l head.sites l.bound backs entries laps (at_entry plant.image plant.system registers own)
    (sum_option (entries_count (its plant head declared l)) (entered plant own))
start_rounds plant is head declared l own instance registers backs entries laps most = choose (entry_of plant.image plant.system own) refl
  where
    choose : (place : Option ℕ) → entry_of plant.image plant.system own ≡ place
        → Circles l head.sites l.bound backs entries laps (option_map (standing_at registers) place)
        (sum_option (entries_count (its plant head declared l)) (entered plant own))
    choose None e = circles_gone l head.sites l.bound backs entries laps _ most
    choose (Some place) e = circles_fresh l head.sites l.bound backs entries laps (standing_at registers place) _ most
        (λ rest string lies none.
        let nothing = beyond_nothing head.sites rest string in
        let inside : in_range l place ≡ true = subst (λ (cs : List ℕ). lies_by l place (Some cs) ≡ true) nothing.1 lies in
        let counts = entry_enters plant is head declared l own instance place e nothing.0 inside in
        absurd (omega arith))

-- ---- Steps that use nothing that counts

pub unused : (count : Column → ℕ) (used : Option Column) (uses : List Column) → sum_option count used ≡ 0
    → sum_by count uses ≡ sum_by count (option_to_list used ++ uses)
unused count used uses none = let all = sum_with count used uses in omega arith

pub moves_count_nothing : (instance : LoopInstance) (going : MoveLabel → Going) (label : Option MoveLabel)
    → (sum_option (backs_count instance) (option_map (λ m. Moves (going m)) label) ≡ 0)
    × (sum_option (entries_count instance) (option_map (λ m. Moves (going m)) label) ≡ 0)
moves_count_nothing instance going None = (refl, refl)
moves_count_nothing instance going (Some label) = (refl, refl)
