-- Each step from a covered state is covered, and so is the state behind it.
use Rattle.std.proofs.Common.{◌≡◌, ℕ, ◌<◌, true, false, List, ◌∷◌, length, All, Contains, Option, None, Result, Ok, Err, refl, sym, ◌∙◌, ap, subst, arith, IsSome, is_some}
use Rattle.std.specs.Prelude.{option_and_then}
use Rattle.std.proofs.lemmas.List.Elements.{All-contains}
use Rattle.osek_kernel.specs.declared.context.Context.{Context}
use Rattle.osek_kernel.specs.declared.kernel.Reply.{Reply}
use Rattle.osek_kernel.specs.Contexts.{IsContext}
use Rattle.osek_kernel.specs.Positions.{ArePositions, started, answered}
use Rattle.osek_kernel.specs.Running.{dispatched}
use Rattle.osek_kernel.specs.Sources.{source_count, source_at, is_live}
use Rattle.osek_machine.specs.State.{MachineState}
use Rattle.osek_machine.specs.Events.{Taking, Execution, ServiceCall, Event, Arrive, Take, Execute, Serve, Idle}
use Rattle.osek_machine.specs.Steps.{Takes, Executes, Serves, Step, taken_by, served_by}
use Rattle.osek_machine.specs.Runs.{IsRun}
use Rattle.osek_machine.specs.Room.{IsStateOf}
use Rattle.osek_machine.specs.Declarations.{ReturnsPaired}
use Rattle.osek_machine.proofs.Kept.{running_exists, pending_within, step_keeps}
use Rattle.osek_machine.proofs.Times.{runs_take_their_time}
use Rattle.graph_runs.specs.Walking.{AreWalking, IsNoMisuse}
use Rattle.graph_runs.proofs.Walking.{steps_walk_on}
use Rattle.wcet_atomic_blocks.specs.Plants.{PlantData, IsPlant}
use Rattle.abstract_sched.specs.declared.states.AbsState.{AbsState}
use Rattle.scheduler_moves.specs.declared.moves.Misuse.{Misuse}
use Rattle.scheduler_moves.specs.declared.moves.Move.{Move}
use Rattle.scheduler_moves.specs.declared.moves.MoveLabel.{MoveLabel}
use Rattle.scheduler_moves.specs.declared.moves.MoveLabel.TheVariants as labels
use Rattle.scheduler_moves.specs.Closed.{AreListed, IsClosed}
use Rattle.scheduler_moves.specs.Composed.{composed}
use Rattle.scheduler_moves.specs.Moves.{entry_block, block_behind, successors}
use Rattle.scheduler_moves.proofs.Composing.{CanCompose}
use Rattle.shadow_runs.specs.Covering.{AreInside, FollowsEdge, MakesMove, StepIsCovered}
use Rattle.shadow_runs.specs.Shadow.{block_after, begun, shadow}
use Rattle.shadow_runs.proofs.Along.{goes_along}
use Rattle.shadow_runs.proofs.Begun.{takes_begin, serves_begin}
use Rattle.shadow_runs.proofs.Behind.{AsksAt, asks_at}
use Rattle.shadow_runs.proofs.Inside.{is_inside, has_next, execute_inside, take_inside, goes_on_inside, begins_behind, serve_inside}
use Rattle.shadow_runs.proofs.Live.{pending_are_live}
use Rattle.shadow_runs.proofs.Moving.{takes_listed, taken_to, at_exit, serves_listed, served_to}
use Rattle.shadow_runs.proofs.Planted.{program_in, have_graph}

-- What holds of each state of a run that pairs its returns.
pub record Covers (plant : PlantData) (states : List AbsState) (mode : ℕ) (events : List Event) (state : MachineState) : Type 0 where
  pub room : IsStateOf plant.system state
  pub walking : AreWalking (program_in plant) plant.system state
  pub blocks : ArePositions plant.system state.kernel (begun plant mode events)
  pub inside : AreInside plant mode events state
  pub listed : Contains states (shadow plant mode events state)

-- What is known of a step: the plant, the closed list, the run before it, and that it pairs its return.
pub record IsNext (plant : PlantData) (states : List AbsState) (mode : ℕ) (event : Event) (earlier : List Event) (before after : MachineState) : Type 0 where
  pub is : IsPlant plant
  pub closed : IsClosed plant states
  pub run : IsRun plant.image plant.system mode earlier before
  pub covers : Covers plant states mode earlier before
  pub step : Step plant.image plant.system event before after
  pub pairs : ReturnsPaired plant.image event

-- the step is covered, and no misuse
pub record IsFine (plant : PlantData) (mode : ℕ) (event : Event) (earlier : List Event) (before after : MachineState) : Type 0 where
  pub covered : StepIsCovered plant mode event earlier before after
  pub clean : IsNoMisuse event

-- ---- Moves of the shadow

pub can_compose : (plant : PlantData) (states : List AbsState) (mode : ℕ) (events : List Event) (state : MachineState) → Covers plant states mode events state
    → CanCompose plant.system state.kernel (begun plant mode events)
can_compose plant states mode events state covers = record { positions = covers.blocks; tasks = covers.room.tasks; isr = covers.room.isr }

-- a listed state has moves, to listed states
pub record Stays (plant : PlantData) (states : List AbsState) (state : AbsState) : Type 0 where
  pub moves : List Move
  pub succeeds : successors plant state ≡ Ok moves
  pub listed : All (λ (move : Move). Contains states move.to) moves

are_listed : (states : List AbsState) (result : Result (List Move) Misuse) → AreListed states result
    → (moves : List Move) × (result ≡ Ok moves) × All (λ (move : Move). Contains states move.to) moves
are_listed states (Ok moves) are = (moves, refl, are)
are_listed states (Err misuse) are = absurd are

stays : (plant : PlantData) (states : List AbsState) (state : AbsState) → IsClosed plant states → Contains states state → Stays plant states state
stays plant states state closed listed =
    let found = are_listed states (successors plant state) (closed.stays state listed) in record { moves = found.0; succeeds = found.1; listed = found.2 }

-- the state after a move is listed
moved_to : (plant : PlantData) (states : List AbsState) (mode : ℕ) (label : MoveLabel) (event : Event) (earlier : List Event)
    (before after : MachineState) → IsClosed plant states
    → Contains states (shadow plant mode earlier before) → (makes : MakesMove plant mode label event earlier before after)
    → Contains states (shadow plant mode (event ∷ earlier) after)
moved_to plant states mode label event earlier before after closed listed makes =
    All-contains (λ (move : Move). Contains states move.to) makes.moves (record { label = label; to = shadow plant mode (event ∷ earlier) after })
    (subst (AreListed states) makes.moved (closed.stays (shadow plant mode earlier before) listed)) makes.listed

-- ---- A source is taken

take_moves : (plant : PlantData) (states : List AbsState) (mode : ℕ) (taking : Taking) (earlier : List Event) (before after : MachineState)
    → IsNext plant states mode (Take taking) earlier before after → MakesMove plant mode (labels.Take taking.source) (Take taking) earlier before after
take_moves plant states mode taking earlier before after next =
    let step : Takes plant.image plant.system taking before after = next.step in
    let covers = next.covers in
    let all = stays plant states (shadow plant mode earlier before) next.closed covers.listed in
    let done = taken_by plant.system taking.source before in
    let within : taking.source < source_count plant.system = (let w = pending_within before.pending taking.source step.pending in
    let same : length before.pending ≡ source_count plant.system = covers.room.pending in omega arith) in
    let live : is_live plant.system before.kernel.mode (source_at plant.system taking.source) ≡ true =
    ap (λ m. is_live plant.system m (source_at plant.system taking.source)) (runs_take_their_time plant.image plant.system mode earlier before next.run).in_mode
    ∙ pending_are_live plant.image plant.system mode earlier before next.run taking.source step.pending in
    let same : taken_to plant taking.source before.kernel (begun plant mode earlier) ≡ shadow plant mode (Take taking ∷ earlier) after =
    ap (λ (who : Option Context). composed plant.system (dispatched plant.system done.kernel)
    (started plant.system (entry_block plant) who (begun plant mode earlier))) (sym step.started)
    ∙ ap (λ (s : MachineState). composed plant.system s.kernel (started plant.system (entry_block plant) taking.started (begun plant mode earlier)))
    (sym step.becomes) in
    record {
      moves = all.moves;
      moved = all.succeeds;
      listed = takes_listed plant before.kernel (begun plant mode earlier) taking.source all.moves (shadow plant mode (Take taking ∷ earlier) after)
          (can_compose plant states mode earlier before covers) all.succeeds step.interrupts within live same;
    }

-- ---- An instruction is executed

execute_follows : (plant : PlantData) (states : List AbsState) (mode : ℕ) (execution : Execution) (earlier : List Event) (before after : MachineState)
    → IsNext plant states mode (Execute execution) earlier before after → FollowsEdge plant mode execution earlier before after
execute_follows plant states mode execution earlier before after next =
    let step : Executes plant.image plant.system execution before after = next.step in
    let covers = next.covers in
    let exists : IsContext plant.system execution.context = running_exists plant.system before execution.context covers.room step.running in
    let along = goes_along plant next.is execution before after covers.room step next.pairs covers.walking in
    let inside = covers.inside execution.context execution.before exists step.stands in
    let held = is_inside plant (begun plant mode earlier) execution.context execution.before along.node inside along.stands in
    record {
      node = along.node;
      stands = along.stands;
      next = along.next;
      arrives = along.arrives;
      edge = along.edge;
      instruction = along.instruction;
      block = inside.block;
      began = inside.began;
      inside = held;
      inside_next = has_next plant next.is execution along inside.block held;
      stays = ap (λ (s : MachineState). composed plant.system s.kernel (begun plant mode earlier)) step.becomes;
    }

-- ---- A service is called

serve_calls : (plant : PlantData) (states : List AbsState) (mode : ℕ) (call : ServiceCall) (earlier : List Event) (before after : MachineState)
    → IsNext plant states mode (Serve call) earlier before after → IsFine plant mode (Serve call) earlier before after
serve_calls plant states mode call earlier before after next =
    let step : Serves plant.image plant.system call before after = next.step in
    let covers = next.covers in
    let blocks : List (Option ℕ) = begun plant mode earlier in
    let can = can_compose plant states mode earlier before covers in
    let all = stays plant states (shadow plant mode earlier before) next.closed covers.listed in
    let exists : IsContext plant.system call.caller = running_exists plant.system before call.caller covers.room step.running in
    let asks = asks_at plant next.is call before after covers.room step covers.walking in
    let inside = covers.inside call.caller call.before exists step.stands in
    let held = is_inside plant blocks call.caller call.before asks.at.number inside asks.at.found in
    let done = served_by plant.system call before in
    let behind : block_behind plant asks.at.number ≡ block_after plant call = sym (ap (option_and_then (block_behind plant)) asks.at.found) in
    let same : served_to plant call asks.at.number before.kernel blocks ≡ shadow plant mode (Serve call ∷ earlier) after =
    ap (λ (b : Option ℕ). composed plant.system (dispatched plant.system done.kernel)
    (answered plant.system (entry_block plant) call.caller b done.reply blocks)) behind
    ∙ (ap (λ (r : Reply). composed plant.system (dispatched plant.system done.kernel)
    (answered plant.system (entry_block plant) call.caller (block_after plant call) r blocks)) (sym step.replied)
    ∙ ap (λ (s : MachineState). composed plant.system s.kernel (answered plant.system (entry_block plant) call.caller
    (block_after plant call) call.reply blocks)) (sym step.becomes)) in
    let served = serves_listed plant next.is before.kernel blocks call asks inside.block all.moves
    (shadow plant mode (Serve call ∷ earlier) after) can all.succeeds step.running step.service
    inside.began held same in
    record {
      covered = record {
        node = asks.at.number;
        stands = asks.at.found;
        at_exit = at_exit plant next.is before.kernel blocks call asks inside.block can inside.began held;
        makes = record { moves = all.moves; moved = all.succeeds; listed = served.listed };
      };
      clean = ap (λ (r : Reply). r.misuse) step.replied ∙ served.clean;
    }

-- ---- Each step

pub step_is_fine : (plant : PlantData) (states : List AbsState) (mode : ℕ) (event : Event) (earlier : List Event) (before after : MachineState)
    → IsNext plant states mode event earlier before after → IsFine plant mode event earlier before after
step_is_fine plant states mode (Arrive arrival) earlier before after next =
    record { covered = ap (λ (s : MachineState). composed plant.system s.kernel (begun plant mode earlier)) next.step.becomes; clean = tt }
step_is_fine plant states mode (Take taking) earlier before after next = record
    { covered = take_moves plant states mode taking earlier before after next; clean = tt }
step_is_fine plant states mode (Execute execution) earlier before after next = record
    { covered = execute_follows plant states mode execution earlier before after next; clean = tt }
step_is_fine plant states mode (Serve call) earlier before after next = serve_calls plant states mode call earlier before after next
step_is_fine plant states mode (Idle cycles) earlier before after next =
    record { covered = ap (λ (s : MachineState). composed plant.system s.kernel (begun plant mode earlier)) next.step.becomes; clean = tt }

-- ---- The state behind it

listed_after : (plant : PlantData) (states : List AbsState) (mode : ℕ) (event : Event) (earlier : List Event) (before after : MachineState)
    → IsClosed plant states → Contains states (shadow plant mode earlier before) → StepIsCovered plant mode event earlier before after
    → Contains states (shadow plant mode (event ∷ earlier) after)
listed_after plant states mode (Arrive arrival) earlier before after closed listed same = subst (Contains states) (sym same) listed
listed_after plant states mode (Take taking) earlier before after closed listed makes = moved_to plant states mode (labels.Take taking.source)
    (Take taking) earlier before after closed listed makes
listed_after plant states mode (Execute execution) earlier before after closed listed follows = subst (Contains states) (sym follows.stays) listed
listed_after plant states mode (Serve call) earlier before after closed listed calls = moved_to plant states mode (labels.Service calls.node)
    (Serve call) earlier before after closed listed calls.makes
listed_after plant states mode (Idle cycles) earlier before after closed listed same = subst (Contains states) (sym same) listed

-- a caller that goes on has a block behind it
goes_to_block : (plant : PlantData) → IsPlant plant → (call : ServiceCall) (before after : MachineState)
    → Serves plant.image plant.system call before after → (asks : AsksAt plant call)
    → call.reply.misuse ≡ false → call.reply.ended ≡ None → IsSome (block_after plant call)
goes_to_block plant is call before after step asks clean stays =
    let goes = goes_on_inside plant is call before after step asks (ap (λ (r : Reply). r.misuse) (sym step.replied) ∙ clean)
    (ap (λ (r : Reply). r.ended) (sym step.replied) ∙ stays) in
    ap is_some (begins_behind plant call asks _ goes)

blocks_after : (plant : PlantData) (states : List AbsState) (mode : ℕ) (event : Event) (earlier : List Event) (before after : MachineState)
    → IsNext plant states mode event earlier before after → IsNoMisuse event → ArePositions plant.system after.kernel (begun plant mode (event ∷ earlier))
blocks_after plant states mode (Arrive arrival) earlier before after next clean =
    subst (λ (s : MachineState). ArePositions plant.system s.kernel (begun plant mode earlier)) (sym next.step.becomes) next.covers.blocks
blocks_after plant states mode (Take taking) earlier before after next clean =
    takes_begin plant next.is taking before after (begun plant mode earlier) next.covers.room next.step next.covers.blocks
blocks_after plant states mode (Execute execution) earlier before after next clean =
    subst (λ (s : MachineState). ArePositions plant.system s.kernel (begun plant mode earlier)) (sym next.step.becomes) next.covers.blocks
blocks_after plant states mode (Serve call) earlier before after next clean =
    let asks = asks_at plant next.is call before after next.covers.room next.step next.covers.walking in
    serves_begin plant next.is call (block_after plant call) before after (begun plant mode earlier) next.covers.room next.step
    (goes_to_block plant next.is call before after next.step asks clean) next.covers.blocks
blocks_after plant states mode (Idle cycles) earlier before after next clean =
    subst (λ (s : MachineState). ArePositions plant.system s.kernel (begun plant mode earlier)) (sym next.step.becomes) next.covers.blocks

inside_after : (plant : PlantData) (states : List AbsState) (mode : ℕ) (event : Event) (earlier : List Event) (before after : MachineState)
    → IsNext plant states mode event earlier before after → IsNoMisuse event → AreInside plant mode (event ∷ earlier) after
inside_after plant states mode (Arrive arrival) earlier before after next clean = subst (AreInside plant mode earlier)
    (sym next.step.becomes) next.covers.inside
inside_after plant states mode (Take taking) earlier before after next clean =
    take_inside plant next.is (begun plant mode earlier) taking before after next.covers.room next.covers.blocks.count next.step next.covers.inside
inside_after plant states mode (Execute execution) earlier before after next clean =
    execute_inside plant next.is (begun plant mode earlier) execution before after next.covers.room next.step
    (goes_along plant next.is execution before after next.covers.room next.step next.pairs next.covers.walking) next.covers.inside
inside_after plant states mode (Serve call) earlier before after next clean =
    let step : Serves plant.image plant.system call before after = next.step in
    serve_inside plant next.is (begun plant mode earlier) call before after next.covers.room next.covers.blocks.count step
    (asks_at plant next.is call before after next.covers.room step next.covers.walking)
    (ap (λ (r : Reply). r.misuse) (sym step.replied) ∙ clean) next.covers.inside
inside_after plant states mode (Idle cycles) earlier before after next clean = subst (AreInside plant mode earlier) (sym next.step.becomes) next.covers.inside

pub next_covers : (plant : PlantData) (states : List AbsState) (mode : ℕ) (event : Event) (earlier : List Event) (before after : MachineState)
    → IsNext plant states mode event earlier before after → IsFine plant mode event earlier before after → Covers plant states mode (event ∷ earlier) after
next_covers plant states mode event earlier before after next fine = record {
  room = step_keeps plant.image plant.system event before after next.is.system (have_graph plant next.is).entries next.step next.covers.room;
  walking = steps_walk_on plant.image plant.system plant.timing event before after
      (have_graph plant next.is) next.covers.room next.step next.pairs fine.clean next.covers.walking;
  blocks = blocks_after plant states mode event earlier before after next fine.clean;
  inside = inside_after plant states mode event earlier before after next fine.clean;
  listed = listed_after plant states mode event earlier before after next.closed next.covers.listed fine.covered;
}
