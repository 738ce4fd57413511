-- Exactly the active contexts have begun a block: at the start of a mode, and after each step.
use Rattle.std.proofs.Common.{◌≡◌, ℕ, ◌+◌, ◌-◌, ◌<◌, Bool, true, false, cond, List, length, Option, Some, None, refl, sym, ◌∙◌, ap, subst, arith, is_some, IsSome, ◌↔◌, option_map}
use Rattle.std.specs.Prelude.{nat_eq}
use Rattle.std.specs.Option.{option_map_or}
use Rattle.std.proofs.lemmas.Bool.{lt-ltb, le-ltb, eqb-true, eq-eqb}
use Rattle.std.proofs.lemmas.List.FromFn.{length-map-range_with_len, get_or-map-range_with_len}
use Rattle.oil_model.specs.declared.system.System.{System}
use Rattle.osek_kernel.specs.declared.context.Context.{Context}
use Rattle.osek_kernel.specs.declared.context.Context.TheVariants as contexts
use Rattle.osek_kernel.specs.declared.kernel.Kernel.{Kernel}
use Rattle.osek_kernel.specs.declared.kernel.Reply.{Reply}
use Rattle.osek_kernel.specs.Contexts.{IsContext, place_of, context_at, context_count}
use Rattle.osek_kernel.specs.Kernel.{IsActive, is_locked}
use Rattle.osek_kernel.specs.Laws.{ServesActive, TakesActive}
use Rattle.osek_kernel.specs.Positions.{position_of, ArePositions, placed, started, answered}
use Rattle.osek_kernel.specs.Running.{dispatched}
use Rattle.osek_kernel.specs.Sources.{source_at, source_count}
use Rattle.osek_kernel.proofs.Serves.{services_keep_active}
use Rattle.osek_kernel.proofs.Theorems.{the_first_runs}
use Rattle.osek_machine.specs.State.{MachineState}
use Rattle.osek_machine.specs.Events.{Taking, ServiceCall}
use Rattle.osek_machine.specs.Steps.{Takes, Serves, taken_by, served_by, argument_in}
use Rattle.osek_machine.specs.Room.{IsStateOf}
use Rattle.osek_machine.proofs.Keeping.{dispatch_keeps, take_keeps, serve_keeps}
use Rattle.osek_machine.proofs.Kept.{takes_active, open_none, running_exists, pending_within, taken_exists, served_exists}
use Rattle.osek_machine.proofs.Placing.{place_within}
use Rattle.wcet_atomic_blocks.specs.Plants.{PlantData, IsPlant}
use Rattle.scheduler_moves.specs.Moves.{entry_block, is_active, start_block, start_blocks}
use Rattle.shadow_runs.proofs.Planted.{has_entry_block, blocks_enter}

-- ---- At the start of a mode

context_there : (system : System) (c : Context) → IsContext system c → context_at system (place_of system c) ≡ c
context_there system (contexts.Task t) is = ap (λ b. cond b (contexts.Task t) (contexts.Isr (t - length system.tasks))) (lt-ltb t (length system.tasks) is)
context_there system (contexts.Isr i) is =
    ap (λ b. cond b (contexts.Task (length system.tasks + i)) (contexts.Isr ((length system.tasks + i) - length system.tasks)))
    (le-ltb (length system.tasks + i) (length system.tasks) (omega arith))
    ∙ ap contexts.Isr (omega arith)

start_there : (plant : PlantData) (kernel : Kernel) (c : Context) → IsContext plant.system c
    → position_of plant.system (start_blocks plant kernel) c ≡ start_block plant kernel c
start_there plant kernel c exists =
    get_or-map-range_with_len (λ n. start_block plant kernel (context_at plant.system n)) 0 (context_count plant.system) (place_of plant.system c)
    (place_of plant.system c) None
    (place_within plant.system c exists) (omega arith)
    ∙ ap (start_block plant kernel) (context_there plant.system c exists)

is_isr : (i : ℕ) (isr : Option ℕ) → (option_map_or (nat_eq i) isr false ≡ true) ↔ (isr ≡ Some i)
is_isr i None = (λ e. absurd cc, λ e. absurd cc)
is_isr i (Some j) = (λ e. ap Some (sym (eqb-true i j e)), λ e. eq-eqb i j (let same : j ≡ i = cc in sym same))

active_test : (kernel : Kernel) (c : Context) → (is_active kernel c ≡ true) ↔ IsActive kernel c
active_test kernel (contexts.Task t) = (λ e. e, λ e. e)
active_test kernel (contexts.Isr i) = is_isr i kernel.isr

some_passes : (b : Bool) (block : Option ℕ) → IsSome (cond b block None) → b ≡ true
some_passes true block some = refl
some_passes false block some = absurd cc

-- an active context has begun the block of its entry
pub begun_at_entry : (plant : PlantData) (kernel : Kernel) (c : Context) → IsContext plant.system c → IsActive kernel c
    → position_of plant.system (start_blocks plant kernel) c ≡ entry_block plant c
begun_at_entry plant kernel c exists active =
    start_there plant kernel c exists ∙ ap (λ b. cond b (entry_block plant c) None) ((active_test kernel c).1 active)

pub starts_begin : (plant : PlantData) → IsPlant plant → (kernel : Kernel) → ArePositions plant.system kernel (start_blocks plant kernel)
starts_begin plant is kernel = record {
  count = length-map-range_with_len (λ n. start_block plant kernel (context_at plant.system n)) 0 (context_count plant.system);
  active = λ c exists. (
    λ some. (active_test kernel c).0 (some_passes (is_active kernel c) (entry_block plant c) (ap is_some (sym (start_there plant kernel c exists)) ∙ some)),
    λ active. ap is_some (begun_at_entry plant kernel c exists active ∙ (has_entry_block plant is c exists).entered),
  );
}

-- ---- After a source is taken

-- who is started by a source that is pending exists
pub who_exists : (plant : PlantData) → IsPlant plant → (taking : Taking) (before after : MachineState) → IsStateOf plant.system before
    → Takes plant.image plant.system taking before after → (d : Context) → (taken_by plant.system taking.source before).started ≡ Some d
    → IsContext plant.system d
who_exists plant is taking before after fits step =
    let within : taking.source < source_count plant.system = (let w = pending_within before.pending taking.source step.pending in
    let same : length before.pending ≡ source_count plant.system = fits.pending in omega arith) in
    taken_exists plant.system before.kernel is.system taking.source within

pub takes_begin : (plant : PlantData) → IsPlant plant → (taking : Taking) (before after : MachineState) (blocks : List (Option ℕ))
    → IsStateOf plant.system before
    → Takes plant.image plant.system taking before after → ArePositions plant.system before.kernel blocks
    → ArePositions plant.system after.kernel (started plant.system (entry_block plant) taking.started blocks)
takes_begin plant is taking before after blocks fits step are =
    let done = taken_by plant.system taking.source before in
    let active : TakesActive before.kernel done = takes_active plant.system before.kernel (source_at plant.system taking.source)
    (open_none before.kernel.isr (is_locked before.kernel) step.interrupts) in
    let taken : ArePositions plant.system (dispatched plant.system done.kernel) (started plant.system (entry_block plant) done.started blocks) =
    dispatch_keeps plant.system done.kernel (started plant.system (entry_block plant) done.started blocks)
    (take_keeps plant.system (entry_block plant) before.kernel done blocks (blocks_enter plant is)
    (who_exists plant is taking before after fits step) fits.tasks active are) in
    subst (λ (s : MachineState). ArePositions plant.system s.kernel (started plant.system (entry_block plant) taking.started blocks)) (sym step.becomes)
    (subst (λ (who : Option Context). ArePositions plant.system (dispatched plant.system done.kernel)
    (started plant.system (entry_block plant) who blocks)) (sym step.started) taken)

-- ---- After a service

-- where the caller ends it doesn't count where it would go on
ends_anyhow : (ended : Option Context) (next : Option ℕ) → (ended ≡ None → IsSome next)
    → (block : ℕ) × (cond (is_some ended) None next ≡ cond (is_some ended) None (Some block))
ends_anyhow ended (Some block) goes = (block, refl)
ends_anyhow (Some context) None goes = (0, refl)
ends_anyhow None None goes = absurd (let some = goes refl in cc)

answered_anyhow : (system : System) (entry : Context → Option ℕ) (caller : Context) (next : Option ℕ) (reply : Reply) (blocks : List (Option ℕ))
    → (reply.ended ≡ None → IsSome next)
    → (block : ℕ) × (answered system entry caller next reply blocks ≡ answered system entry caller (Some block) reply blocks)
answered_anyhow system entry caller next reply blocks goes =
    let same = ends_anyhow reply.ended next goes in
    (same.0, ap (λ (gone : Option ℕ). started system entry (option_map contexts.Task reply.activated) (placed system caller gone blocks)) same.1)

pub serves_begin : (plant : PlantData) → IsPlant plant → (call : ServiceCall) (next : Option ℕ) (before after : MachineState) (blocks : List (Option ℕ))
    → IsStateOf plant.system before
    → Serves plant.image plant.system call before after → (call.reply.ended ≡ None → IsSome next) → ArePositions plant.system before.kernel blocks
    → ArePositions plant.system after.kernel (answered plant.system (entry_block plant) call.caller next call.reply blocks)
serves_begin plant is call next before after blocks fits step goes are =
    let done = served_by plant.system call before in
    let active : IsActive before.kernel call.caller = (the_first_runs plant.system before.kernel).active call.caller step.running in
    let who : ServesActive before.kernel call.caller done = services_keep_active plant.system before.kernel call.caller call.service
    (argument_in call.before) active in
    let same = answered_anyhow plant.system (entry_block plant) call.caller next done.reply blocks
    (λ none. goes (ap (λ (r : Reply). r.ended) step.replied ∙ none)) in
    let served : ArePositions plant.system (dispatched plant.system done.kernel)
    (answered plant.system (entry_block plant) call.caller (Some same.0) done.reply blocks) =
    dispatch_keeps plant.system done.kernel (answered plant.system (entry_block plant) call.caller (Some same.0) done.reply blocks)
    (serve_keeps plant.system (entry_block plant) before.kernel call.caller done same.0 blocks (blocks_enter plant is)
    (served_exists plant.system before.kernel call.caller call.service (argument_in call.before) step.argument) fits.tasks who
    (running_exists plant.system before call.caller fits step.running) active are) in
    subst (λ (s : MachineState). ArePositions plant.system s.kernel (answered plant.system (entry_block plant) call.caller next call.reply blocks))
    (sym step.becomes)
    (subst (λ (r : Reply). ArePositions plant.system (dispatched plant.system done.kernel)
    (answered plant.system (entry_block plant) call.caller next r blocks)) (sym step.replied)
    (subst (ArePositions plant.system (dispatched plant.system done.kernel)) (sym same.1) served))
