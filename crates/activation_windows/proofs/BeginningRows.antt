-- A block is begun only by its moves, and runs only in a state that is come into.
use Rattle.std.proofs.Common.{◌≡◌, ℕ, ◌≤◌, Bool, true, false, cond, List, [], ◌∷◌, map, All, Option, Some, None, refl, sym, ◌∙◌, ap, subst, arith, is_some, IsSome}
use Rattle.std.specs.Prelude.{◌&&◌, ◌==◌, nat_eq, option_map, option_and_then, slice_get}
use Rattle.std.specs.List.{flat_map}
use Rattle.std.specs.Option.{option_map_or}
use Rattle.std.proofs.lemmas.Bool.{eqb-true, eq-eqb}
use Rattle.std.proofs.lemmas.List.Elements.{All-nil, All-cons, All-append}
use Rattle.std.proofs.lemmas.Option.{none-some, same_Some}
use Rattle.osek_kernel.specs.declared.context.Context.{Context}
use Rattle.osek_kernel.specs.declared.context.Context.TheVariants as contexts
use Rattle.osek_kernel.specs.Contexts.{IsContext, context_at}
use Rattle.osek_kernel.specs.Kernel.{IsActive}
use Rattle.osek_kernel.specs.Positions.{position_of}
use Rattle.osek_kernel.specs.Running.{runs}
use Rattle.osek_kernel.proofs.Theorems.{the_first_runs}
use Rattle.osek_machine.specs.State.{MachineState, standing_of}
use Rattle.osek_machine.specs.Events.{ServiceCall, Event, Arrive, Take, Execute, Serve, Idle}
use Rattle.flow_graph.specs.declared.node.Node.{Node}
use Rattle.wcet_atomic_blocks.specs.declared.block.Block.{Block}
use Rattle.wcet_atomic_blocks.specs.PlantLaws.{BeginsBehind, AftersBegin, NodesAreOfOwner}
use Rattle.wcet_atomic_blocks.specs.Plants.{PlantData, IsPlant}
use Rattle.wcet_atomic_blocks.proofs.PlantFacts.{afters_begin, nodes_are_of_owner}
use Rattle.abstract_sched.specs.declared.states.AbsState.{AbsState}
use Rattle.scheduler_moves.specs.declared.moves.MoveLabel.TheVariants as labels
use Rattle.scheduler_moves.specs.Moves.{entry_block, block_behind, running_in}
use Rattle.shadow_runs.specs.Covering.{CallsAtExit}
use Rattle.shadow_runs.specs.Shadow.{begun, node_of}
use Rattle.shadow_runs.proofs.Planted.{has_entry_block, there_is}
use Rattle.row_build.specs.Columns.{Going, Column, Starts, Moves, Goes, Begins, Stands, In, activates, calls_at, begun_blocks}
use Rattle.row_build.specs.Families.{begins_that, moves_that, into, begins_block, begins_by_move, begins_into, runs_in_block, beginning_rows}
use Rattle.activation_windows.specs.Counted.{IsDeclaredCase, IsUsed, Meets, MeetsBeginning}
use Rattle.activation_windows.specs.Windows.{shadow_after, running_after, nodes_after, going_by, used_by, start_by, entered, behind}
use Rattle.activation_windows.proofs.Stepping.{told_of, runs_in, active_in, contexts_exist, take_begins, serve_begins}
use Rattle.activation_windows.proofs.Induction.{IsLater, Inducts, covers_of, is_this_one, step_of}
use Rattle.activation_windows.proofs.Nodes.{context_there, nodes_are}
use Rattle.activation_windows.proofs.AtNodes.{at_node_of, stands_here}
use Rattle.activation_windows.proofs.Rising.{CountsVisits, IsBegun, opened_begun, gone_on_begun, begun_at_most, entered_at_most, step_none, start_none}
use Rattle.activation_windows.proofs.Sums.{one, sum_option, sum_waiting, begins_count, moves_count, into_count, begins_counted, moves_counted, into_counted, difference_counted, meets_by}
use Rattle.activation_windows.proofs.InBlocks.{IsVisit, newly}

-- ---- Counts of a block

abbrev begins : ℕ → Column → ℕ
begins number = begins_count (nat_eq number)

begins_visits : (number : ℕ) → CountsVisits (begins number)
begins_visits number = record { starts = λ start. refl; moves = λ going. refl; goes = λ along. refl }

pub one_if : (a b : Bool) → (a ≡ true → b ≡ true) → one a ≤ one b
one_if false b h = omega arith
one_if true true h = omega arith
one_if true false h = absurd (let wrong = h refl in cc)

pub both_true : (a b : Bool) → a ≡ true → b ≡ true → (a && b) ≡ true
both_true true b e f = f
both_true false b e f = e

-- ---- The block of the context that runs is one of its own

some_of : {A : Type 0} (o : Option A) → IsSome o → (a : A) × (o ≡ Some a)
some_of (Some a) some = (a, refl)
some_of None some = absurd cc

pub owner_by : (o : Option Node) (owner : ℕ) (node : Node) → o ≡ Some node → option_map_or (λ (n : Node). n.context == owner) o false ≡ true → node.context ≡ owner
owner_by (Some n) owner node e is = (let same : n ≡ node = same_Some n node e in subst (λ (m : Node). m.context ≡ owner) same (eqb-true n.context owner is))
owner_by None owner node e is = absurd (none-some node e)

pub begun_owner : (plant : PlantData) (states : List AbsState) (task mode : ℕ) (events : List Event) (state : MachineState)
    → IsDeclaredCase plant states task mode events state → (c : Context) → running_after plant mode events ≡ Some c
    → (number : ℕ) (block : Block) → position_of plant.system (begun plant mode events) c ≡ Some number → slice_get plant.blocks.blocks number ≡ Some block
    → context_at plant.system block.begin.owner ≡ c
unfolding NodesAreOfOwner
begun_owner plant states task mode events state case c runs_now number block began there =
    let all = covers_of plant states task mode events state case in
    let told = told_of plant states task mode events state case in
    let exists : IsContext plant.system c = told.running c runs_now in
    let active : IsActive state.kernel c = (the_first_runs plant.system state.kernel).active c (ap (runs plant.system) (sym told.kernel) ∙ runs_now) in
    let standing = some_of (standing_of plant.system state c) ((all.room.positions.active c exists).1 active) in
    let number_of = at_node_of plant states task mode events state c standing.0 case exists standing.1 in
    let here = stands_here plant states task mode events state c number_of.number case exists
    (nodes_are plant states task mode events state case c exists ∙ (ap (option_and_then (node_of plant c)) standing.1 ∙ number_of.found)) in
    let same : here.block ≡ number = same_Some here.block number (sym here.began ∙ began) in
    let held = there_is (slice_get plant.blocks.blocks here.block) _ here.inside in
    let item : held.item ≡ block = same_Some held.item block (sym held.there ∙ (ap (slice_get plant.blocks.blocks) same ∙ there)) in
    let own : here.at.context ≡ held.item.begin.owner = owner_by (slice_get plant.flow.nodes number_of.number) held.item.begin.owner here.at here.listed
    (nodes_are_of_owner plant case.of.belongs here.block held.item number_of.number held.there held.holds) in
    ap (λ (b : Block). context_at plant.system b.begin.owner) (sym item)
    ∙ (ap (context_at plant.system) (sym own ∙ here.context_is) ∙ context_there plant.system c exists)

-- ---- It runs only in a state that is come into

runs_there : (plant : PlantData) (states : List AbsState) (task mode : ℕ) (events : List Event) (state : MachineState)
    → IsDeclaredCase plant states task mode events state → IsActive state.kernel (contexts.Task task) → (c owner : Context) (number : ℕ) → owner ≡ c
    → running_after plant mode events ≡ Some c → position_of plant.system (begun plant mode events) c ≡ Some number
    → runs_in_block plant task owner number (shadow_after plant mode events) ≡ true
runs_there plant states task mode events state case active c owner number same runs_now began =
    let told = told_of plant states task mode events state case in
    both_true _ _ (active_in plant mode events state told (contexts.Task task) active)
    (both_true _ _ (is_this_one owner (running_in plant (shadow_after plant mode events))
    (runs_in plant mode events state told ∙ (runs_now ∙ ap Some (sym same))))
    (ap (λ (bs : List (Option ℕ)). option_map_or (nat_eq number) (position_of plant.system bs owner) false) told.blocks
    ∙ (ap (λ (d : Context). option_map_or (nat_eq number) (position_of plant.system (begun plant mode events) d) false) same
    ∙ (ap (λ (o : Option ℕ). option_map_or (nat_eq number) o false) began ∙ eq-eqb number number refl))))

begins_passes : (plant : PlantData) (states : List AbsState) (task mode number : ℕ) (block : Block) → slice_get plant.blocks.blocks number ≡ Some block
    → (events : List Event) (state : MachineState) → IsDeclaredCase plant states task mode events state
    → IsActive state.kernel (contexts.Task task) → (c : Context) (visit : Column) → running_after plant mode events ≡ Some c
    → IsVisit plant (position_of plant.system (begun plant mode events) c) c visit
    → begins number visit ≤ one (runs_in_block plant task (context_at plant.system block.begin.owner) number (shadow_after plant mode events))
begins_passes plant states task mode number block there events state case active c (Starts start) runs_now is = omega arith
begins_passes plant states task mode number block there events state case active c (Moves going) runs_now is = omega arith
begins_passes plant states task mode number block there events state case active c (Goes along) runs_now is = omega arith
begins_passes plant states task mode number block there events state case active c (Begins other) runs_now is =
    one_if (nat_eq number other) _ (λ e.
    let same : number ≡ other = eqb-true number other e in
    let began : position_of plant.system (begun plant mode events) c ≡ Some number = is ∙ ap Some (sym same) in
    runs_there plant states task mode events state case active c (context_at plant.system block.begin.owner) number
    (begun_owner plant states task mode events state case c runs_now number block began there) runs_now began)
begins_passes plant states task mode number block there events state case active c (Stands node) runs_now is = omega arith

-- ---- It is begun only by its moves

-- the block of an entry begins behind nothing, and is its context's
of_entry : (plant : PlantData) → IsPlant plant → (c : Context) (number : ℕ) (block : Block) → IsContext plant.system c
    → entry_block plant c ≡ Some number → slice_get plant.blocks.blocks number ≡ Some block
    → (block.begin.after ≡ None) × (context_at plant.system block.begin.owner ≡ c)
of_entry plant is c number block exists entry there =
    let has = has_entry_block plant is c exists in
    let same : has.number ≡ number = same_Some has.number number (sym has.entered ∙ entry) in
    let item : has.block ≡ block = same_Some has.block block (sym has.there ∙ (ap (slice_get plant.blocks.blocks) same ∙ there)) in (
      ap (λ (b : Block). b.begin.after) (sym item) ∙ has.begins.after,
      ap (λ (b : Block). context_at plant.system b.begin.owner) (sym item)
          ∙ (ap (context_at plant.system) has.begins.owner ∙ context_there plant.system c exists),
    )

flat_some : (o : Option (Option ℕ)) (number : ℕ) → option_and_then (λ (b : Option ℕ). b) o ≡ Some number → o ≡ Some (Some number)
flat_some None number e = absurd (none-some number e)
flat_some (Some b) number e = ap Some e

of_behind : (plant : PlantData) → IsPlant plant → (node number : ℕ) (block : Block) → block_behind plant node ≡ Some number
    → slice_get plant.blocks.blocks number ≡ Some block → block.begin.after ≡ Some node
unfolding AftersBegin
of_behind plant is node number block behind_it there =
    let begins = there_is (slice_get plant.blocks.blocks number) (BeginsBehind plant node)
    (afters_begin plant is node number (flat_some (slice_get plant.blocks.afters node) number behind_it)) in
    let item : begins.item ≡ block = same_Some begins.item block (sym begins.there ∙ there) in
    ap (λ (b : Block). b.begin.after) (sym item) ∙ begins.holds.after

-- what the entries begin
entered_if : (number most : ℕ) (block : Option ℕ) → (block ≡ Some number → 1 ≤ most) → sum_option (begins number) (option_map Begins block) ≤ most
entered_if number most None holds = omega arith
entered_if number most (Some other) holds = by (nat_eq number other) refl
  where
    by : (b : Bool) → nat_eq number other ≡ b → one (nat_eq number other) ≤ most
    by true e = let same : number ≡ other = eqb-true number other e in
        let less = holds (ap Some (sym same)) in let is = ap one e in omega arith
    by false e = let is = ap one e in omega arith

entries_most : (plant : PlantData) → IsPlant plant → (number : ℕ) (block : Block) → slice_get plant.blocks.blocks number ≡ Some block
    → (going : Going) (who : Option Context) → ((c : Context) → who ≡ Some c → IsContext plant.system c)
    → ((c : Context) → who ≡ Some c → activates plant c going ≡ true)
    → sum_option (begins number) (option_and_then (entered plant) who) ≤ one (begins_block plant block.begin going)
entries_most plant is number block there going None exist activate = omega arith
entries_most plant is number block there going (Some c) exist activate =
    entered_if number (one (begins_block plant block.begin going)) (entry_block plant c) (λ e.
    let of = of_entry plant is c number block (exist c refl) e there in
    let begins_it : begins_block plant block.begin going ≡ true =
    ap (λ (after : Option ℕ). option_map_or (λ service. calls_at service going.move.label) after
    (activates plant (context_at plant.system block.begin.owner) going))
    of.0 ∙ (ap (λ (d : Context). activates plant d going) of.1 ∙ activate c refl) in
    let is_one = ap one begins_it in omega arith)

-- a block behind a service is begun by no entry, and an entry's block behind no service
entries_none : (plant : PlantData) → IsPlant plant → (number node : ℕ) (block : Block) → slice_get plant.blocks.blocks number ≡ Some block
    → block.begin.after ≡ Some node → (who : Option Context) → ((c : Context) → who ≡ Some c → IsContext plant.system c)
    → sum_option (begins number) (option_and_then (entered plant) who) ≤ 0
entries_none plant is number node block there after None exist = omega arith
entries_none plant is number node block there after (Some c) exist =
    entered_if number 0 (entry_block plant c) (λ e. absurd (none-some node (sym (of_entry plant is c number block (exist c refl) e there).0 ∙ after)))

behind_if : (plant : PlantData) (call : ServiceCall) (number most node : ℕ) → node_of plant call.caller call.before ≡ Some node
    → (block_behind plant node ≡ Some number → 1 ≤ most) → (ended : Option Context)
    → sum_option (begins number) (cond (is_some ended) None (behind plant call)) ≤ most
behind_if plant call number most node stands holds (Some c) = omega arith
behind_if plant call number most node stands holds None =
    entered_if number most (option_and_then (block_behind plant) (node_of plant call.caller call.before))
    (λ e. holds (sym (ap (option_and_then (block_behind plant)) stands) ∙ e))

serve_most : (plant : PlantData) → IsPlant plant → (number : ℕ) (block : Block) → slice_get plant.blocks.blocks number ≡ Some block
    → (call : ServiceCall) (node : ℕ) → node_of plant call.caller call.before ≡ Some node → (going : Going) → going.move.label ≡ labels.Service node
    → ((c : Context) → option_map contexts.Task call.reply.activated ≡ Some c → IsContext plant.system c)
    → ((c : Context) → option_map contexts.Task call.reply.activated ≡ Some c → activates plant c going ≡ true)
    → (after : Option ℕ) → block.begin.after ≡ after
    → newly plant (begins number) (Serve call) ≤ one (begins_block plant block.begin going)
serve_most plant is number block there call node stands going label exist activate None after =
    let behinds = behind_if plant call number 0 node stands
    (λ e. absurd (none-some node (sym after ∙ of_behind plant is node number block e there))) call.reply.ended in
    let entries = entries_most plant is number block there going (option_map contexts.Task call.reply.activated) exist activate in
    omega arith
serve_most plant is number block there call node stands going label exist activate (Some service) after =
    let entries = entries_none plant is number service block there after (option_map contexts.Task call.reply.activated) exist in
    let behinds = behind_if plant call number (one (begins_block plant block.begin going)) node stands (λ e.
    let begins_it : begins_block plant block.begin going ≡ true =
    ap (λ (o : Option ℕ). option_map_or (λ s. calls_at s going.move.label) o (activates plant (context_at plant.system block.begin.owner) going))
    (of_behind plant is node number block e there) ∙ (ap (calls_at node) label ∙ eq-eqb node node refl) in
    let is_one = ap one begins_it in omega arith) call.reply.ended in
    omega arith

begins_most : (plant : PlantData) (states : List AbsState) (task mode number : ℕ) (block : Block) → slice_get plant.blocks.blocks number ≡ Some block
    → (event : Event) (earlier : List Event) (before after : MachineState) → IsLater plant states task mode event earlier before after
    → newly plant (begins number) event ≤ sum_option (moves_count (begins_block plant block.begin)) (used_by plant mode event earlier)
begins_most plant states task mode number block there (Arrive arrival) earlier before after later = omega arith
begins_most plant states task mode number block there (Take taking) earlier before after later =
    entries_most plant later.case.of.belongs number block there (going_by plant mode (labels.Take taking.source) (Take taking) earlier) taking.started
    (contexts_exist plant states task mode (Take taking) earlier before after later)
    (λ c e. take_begins plant states task mode taking earlier before after later c e)
begins_most plant states task mode number block there (Execute execution) earlier before after later = omega arith
begins_most plant states task mode number block there (Serve call) earlier before after later =
    let covered : CallsAtExit plant mode call earlier before after = (step_of plant states task mode (Serve call) earlier before after later).0 in
    let going : Going = going_by plant mode (labels.Service covered.node) (Serve call) earlier in
    let most = serve_most plant later.case.of.belongs number block there call covered.node covered.stands going refl
    (contexts_exist plant states task mode (Serve call) earlier before after later).1
    (λ c e. serve_begins plant states task mode call earlier before after later covered.node covered.stands c e) block.begin.after refl in
    let used : sum_option (moves_count (begins_block plant block.begin)) (used_by plant mode (Serve call) earlier) ≡ one (begins_block plant block.begin going) =
    ap (λ (n : Option ℕ). sum_option (moves_count (begins_block plant block.begin))
    (option_map (λ label. Moves (going_by plant mode label (Serve call) earlier)) (option_map labels.Service n))) covered.stands in
    omega arith
begins_most plant states task mode number block there (Idle cycles) earlier before after later = omega arith

-- at the opening no block's visit waits
none_stand : (number : ℕ) (nodes : List (Option ℕ)) → sum_waiting (begins number) (map (λ node. option_map Stands node) nodes) ≡ 0
none_stand number [] = refl
none_stand number (None ∷ nodes) = let more = none_stand number nodes in omega arith
none_stand number (Some node ∷ nodes) = let more = none_stand number nodes in omega arith

begins_inducts : (plant : PlantData) (states : List AbsState) (task mode number : ℕ) (block : Block) → slice_get plant.blocks.blocks number ≡ Some block
    → Inducts plant states task mode (IsBegun (begins number) (moves_count (begins_block plant block.begin)))
begins_inducts plant states task mode number block there = record {
  starts = λ state case is. opened_begun plant mode (begins number) (moves_count (begins_block plant block.begin)) (Some (Starts (In mode))) [] state
      (let none = none_stand number (nodes_after plant mode []) in omega arith);
  begins = λ event earlier before after later is.
      opened_begun plant mode (begins number) (moves_count (begins_block plant block.begin)) (start_by plant mode event earlier) (event ∷ earlier) after
      (let none = none_stand number (nodes_after plant mode (event ∷ earlier)) in
      let start = start_none plant (begins number) (begins_visits number) mode event earlier in omega arith);
  goes_on = λ event earlier before after window later new on is_open was.
      gone_on_begun plant mode (begins number) (moves_count (begins_block plant block.begin)) event earlier before after window
      (let step = step_none plant (begins number) (begins_visits number) mode event earlier in
      let most = begins_most plant states task mode number block there event earlier before after later in omega arith) was;
}

-- ---- The rows

pub all_two : {X : Type 0} (P : X → Type 0) (x y : X) → P x → P y → All P (x ∷ y ∷ [])
all_two P x y p q = All-cons P x (y ∷ []) p (All-cons P y [] q (All-nil P))

moved_row_meets : (plant : PlantData) (states : List AbsState) (task mode : ℕ) (events : List Event) (state : MachineState)
    (uses : List Column) (since : ℕ)
    → IsDeclaredCase plant states task mode events state → IsUsed plant task mode events uses since
    → (number : ℕ) (block : Block) → slice_get plant.blocks.blocks number ≡ Some block → Meets uses (begins_by_move plant number block.begin)
moved_row_meets plant states task mode events state uses since case used number block there =
    let most = begun_at_most plant states task mode (begins number) (moves_count (begins_block plant block.begin)) (begins_visits number)
    (begins_inducts plant states task mode number block there) events state uses since case used in
    meets_by (begins_by_move plant number block.begin).factor (begins number) (moves_count (begins_block plant block.begin)) 0 uses
    (λ column. difference_counted (begins_that (nat_eq number) column) (moves_that (begins_block plant block.begin) column) _ _
    (begins_counted (nat_eq number) column) (moves_counted (begins_block plant block.begin) column)) (omega arith)

entered_row_meets : (plant : PlantData) (states : List AbsState) (task mode : ℕ) (events : List Event) (state : MachineState)
    (uses : List Column) (since : ℕ)
    → IsDeclaredCase plant states task mode events state → IsUsed plant task mode events uses since
    → (number : ℕ) (block : Block) → slice_get plant.blocks.blocks number ≡ Some block → Meets uses (begins_into plant task number (context_at plant.system block.begin.owner))
entered_row_meets plant states task mode events state uses since case used number block there =
    let test : AbsState → Bool = runs_in_block plant task (context_at plant.system block.begin.owner) number in
    let most = entered_at_most plant states task mode (begins number) test (begins_visits number)
    (begins_passes plant states task mode number block there) events state uses since case used in
    meets_by (begins_into plant task number (context_at plant.system block.begin.owner)).factor (begins number) (into_count plant task test) 0 uses
    (λ column. difference_counted (begins_that (nat_eq number) column) (into plant task test column) _ _
    (begins_counted (nat_eq number) column) (into_counted plant task test column)) (omega arith)

rows_meet : (plant : PlantData) (states : List AbsState) (task mode : ℕ) (events : List Event) (state : MachineState) (uses : List Column) (since : ℕ)
    → IsDeclaredCase plant states task mode events state → IsUsed plant task mode events uses since
    → (number : ℕ) (block : Block) → slice_get plant.blocks.blocks number ≡ Some block → All (Meets uses) (beginning_rows plant task number block)
rows_meet plant states task mode events state uses since case used number block there =
    all_two (Meets uses) (begins_by_move plant number block.begin) (begins_into plant task number (context_at plant.system block.begin.owner))
    (moved_row_meets plant states task mode events state uses since case used number block there)
    (entered_row_meets plant states task mode events state uses since case used number block there)

pub all_flat_map : {A B : Type 0} (P : B → Type 0) (f : A → List B) (xs : List A) → ((x : A) → All P (f x)) → All P (flat_map f xs)
all_flat_map P f [] each = All-nil P
all_flat_map P f (x ∷ xs) each = All-append P (f x) (flat_map f xs) (each x) (all_flat_map P f xs each)

pub meets_beginning : MeetsBeginning
meets_beginning plant states task mode events state uses since case used =
    all_flat_map (Meets uses) (λ number. option_map_or (beginning_rows plant task number) (slice_get plant.blocks.blocks number) [])
    (begun_blocks plant task) (λ number. of number (slice_get plant.blocks.blocks number) refl)
  where
    of : (number : ℕ) (o : Option Block) → slice_get plant.blocks.blocks number ≡ o → All (Meets uses) (option_map_or (beginning_rows plant task number) o [])
    of number None e = All-nil (Meets uses)
    of number (Some block) e = rows_meet plant states task mode events state uses since case used number block e
