-- Each active context stands inside the block that it began last: at the start of a mode, and after each step.
use Rattle.std.proofs.Common.{◌≡◌, ℕ, ◌^◌, ◌<◌, inl, inr, true, false, List, [], length, Option, Some, None, refl, sym, ◌∙◌, ap, subst, arith, is_some, option_map}
use Rattle.std.specs.Prelude.{◌&&◌, ◌==◌, nat_eq, slice_get, option_and_then}
use Rattle.std.specs.Option.{option_map_or}
use Rattle.std.proofs.lemmas.Bool.{and_parts, eqb-true}
use Rattle.std.proofs.lemmas.List.{nil_from_length}
use Rattle.std.proofs.lemmas.Option.{none-some, same_Some}
use Rattle.oil_model.specs.declared.system.System.{System}
use Rattle.rv32_machine.specs.ContextStep.{Standing}
use Rattle.rv32_machine.specs.Registers.{AreRegisters, with_value}
use Rattle.rv32_machine.proofs.ExecutionLaws.{with_value_keeps}
use Rattle.osek_kernel.specs.declared.context.Context.{Context}
use Rattle.osek_kernel.specs.declared.context.Context.TheVariants as contexts
use Rattle.osek_kernel.specs.declared.service.Code.{Code}
use Rattle.osek_kernel.specs.declared.service.Code.TheVariants.{Done, Access, CallLevel, Limit, NoFunction, Resource, State}
use Rattle.osek_kernel.specs.Contexts.{IsContext, place_of, context_count, entry_of}
use Rattle.osek_kernel.specs.Kernel.{IsActive}
use Rattle.osek_kernel.specs.Positions.{position_of, started, answered}
use Rattle.osek_kernel.specs.Services.{code_number}
use Rattle.osek_kernel.specs.Taken.{initial}
use Rattle.osek_machine.specs.State.{MachineState, standing_of, standing_at, at_entry}
use Rattle.osek_machine.specs.Events.{Taking, Execution, ServiceCall}
use Rattle.osek_machine.specs.Steps.{Takes, Executes, Serves, taken_by, served_by, argument_in, gone_on}
use Rattle.osek_machine.specs.Runs.{IsInitial}
use Rattle.osek_machine.specs.Room.{IsStateOf}
use Rattle.osek_machine.proofs.Kept.{running_exists, served_exists}
use Rattle.flow_graph.specs.Faults.{entry_in}
use Rattle.flow_graph.specs.Graph.{entries_of}
use Rattle.graph_runs.proofs.Entries.{entry_is}
use Rattle.graph_runs.proofs.Positions.{after_placed}
use Rattle.wcet_atomic_blocks.specs.Plants.{PlantData, IsPlant, IsEntryNode}
use Rattle.wcet_atomic_blocks.specs.PlantLaws.{HasNode, FirstIsInside, BlocksAreClosed}
use Rattle.wcet_atomic_blocks.proofs.PlantFacts.{first_is_inside, blocks_are_closed}
use Rattle.scheduler_moves.specs.Moves.{entry_block, block_behind, start_blocks}
use Rattle.shadow_runs.specs.Covering.{IsInside}
use Rattle.shadow_runs.specs.Shadow.{node_of, block_after}
use Rattle.shadow_runs.proofs.Along.{GoesAlong}
use Rattle.shadow_runs.proofs.Begun.{begun_at_entry, who_exists}
use Rattle.shadow_runs.proofs.Behind.{AsksAt, GoesOnAt, goes_on_at}
use Rattle.shadow_runs.proofs.Numbers.{at_number}
use Rattle.shadow_runs.proofs.Planted.{has_entry_block, there_is, some_is}
use Rattle.shadow_runs.proofs.Together.{started_together, answered_together}

-- each context that stands somewhere stands inside its block of these
abbrev pub StandInside : PlantData → List (Option ℕ) → MachineState → Type 0
StandInside plant blocks state = (context : Context) (standing : Standing) → IsContext plant.system context
    → standing_of plant.system state context ≡ Some standing → IsInside plant blocks context standing

-- where the block of a context stays it stands inside as before
moved : (plant : PlantData) (blocks others : List (Option ℕ)) (context : Context) (standing : Standing)
    → position_of plant.system others context ≡ position_of plant.system blocks context
    → IsInside plant blocks context standing → IsInside plant others context standing
moved plant blocks others context standing same inside = record {
  node = inside.node;
  stands = inside.stands;
  block = inside.block;
  began = same ∙ inside.began;
  inside = inside.inside;
}

-- ---- At an entry

-- what an entry's node is
record IsEntryAt (node_sites : List ℕ) (address place : ℕ) : Type 0 where
  no_calls : node_sites ≡ []
  same : address ≡ place

entry_at : (entries : List (Option ℕ)) (sites : List ℕ) (address context place : ℕ) → entry_in entries context ≡ Some place
    → ((length sites == 0) && option_map_or (nat_eq address) (entry_in entries context) false) ≡ true → IsEntryAt sites address place
entry_at entries sites address context place at is =
    let parts = and_parts (length sites == 0) (option_map_or (nat_eq address) (entry_in entries context) false) is in
    record {
      no_calls = nil_from_length sites (eqb-true (length sites) 0 parts.0);
      same = eqb-true address place (ap (λ (o : Option ℕ). option_map_or (nat_eq address) o false) (sym at) ∙ parts.1);
    }

-- a context that starts stands inside the block of its entry
enters_inside : (plant : PlantData) → IsPlant plant → (blocks : List (Option ℕ)) (context : Context) (standing : Standing) → IsContext plant.system context
    → entry_of plant.image plant.system context ≡ Some standing.place → standing.calls ≡ []
    → position_of plant.system blocks context ≡ entry_block plant context
    → IsInside plant blocks context standing
unfolding FirstIsInside
enters_inside plant is blocks context standing exists place calls began =
    let has = has_entry_block plant is context exists in
    let first : IsEntryNode (entries_of plant.image plant.system) plant.flow (place_of plant.system context) has.block.begin.first = has.begins.first in
    let there : entry_in (entries_of plant.image plant.system) first.node.context ≡ Some standing.place =
    ap (entry_in (entries_of plant.image plant.system)) first.context_is ∙ (entry_is plant.image plant.system plant.timing context exists ∙ place) in
    let at = entry_at (entries_of plant.image plant.system) first.node.sites first.node.address first.node.context standing.place there first.is_entry in
    record {
      node = has.block.begin.first;
      stands = at_number plant is context standing has.block.begin.first first.node first.stands first.context_is (calls ∙ sym at.no_calls) (sym at.same);
      block = has.number;
      began = began ∙ has.entered;
      inside = some_is (slice_get plant.blocks.blocks has.number) _ has.block has.there (first_is_inside plant is has.number has.block has.there);
    }

-- where a context starts, by the registers that it is given
starts_at : (registers : List ℕ) (place : Option ℕ) (standing : Standing) → option_map (standing_at registers) place ≡ Some standing
    → (place ≡ Some standing.place) × (standing.calls ≡ [])
starts_at registers None standing e = absurd (none-some standing e)
starts_at registers (Some place) standing e =
    let same = same_Some (standing_at registers place) standing e in (ap (λ (s : Standing). Some s.place) same, sym (ap (λ (s : Standing). s.calls) same))

begins_inside : (plant : PlantData) → IsPlant plant → (blocks : List (Option ℕ)) (context : Context) (registers : List ℕ) (standing : Standing)
    → IsContext plant.system context
    → at_entry plant.image plant.system registers context ≡ Some standing → position_of plant.system blocks context ≡ entry_block plant context
    → IsInside plant blocks context standing
begins_inside plant is blocks context registers standing exists at began =
    let starts = starts_at registers (entry_of plant.image plant.system context) standing at in
    enters_inside plant is blocks context standing exists starts.0 starts.1 began

pub start_inside : (plant : PlantData) → IsPlant plant → (mode : ℕ) (state : MachineState) → IsInitial plant.image plant.system mode state
    → StandInside plant (start_blocks plant (initial plant.system mode)) state
start_inside plant is mode state run context standing exists at =
    let entry = run.entries context standing exists at in
    let active : IsActive (initial plant.system mode) context = subst (λ k. IsActive k context) run.kernel
    ((run.standings.active context exists).0 (ap is_some at)) in
    enters_inside plant is (start_blocks plant (initial plant.system mode)) context standing exists entry.place entry.calls
    (begun_at_entry plant (initial plant.system mode) context exists active)

-- ---- After an instruction

-- the node at which a context stands is in the block inside which it stands
pub is_inside : (plant : PlantData) (blocks : List (Option ℕ)) (context : Context) (standing : Standing) (node : ℕ)
    → (inside : IsInside plant blocks context standing)
    → node_of plant context standing ≡ Some node → HasNode plant node inside.block
is_inside plant blocks context standing node inside stands =
    subst (λ (n : ℕ). HasNode plant n inside.block) (same_Some inside.node node (sym inside.stands ∙ stands)) inside.inside

-- a block that has the node before an instruction has the one behind it
pub has_next : (plant : PlantData) → IsPlant plant → (execution : Execution) (along : GoesAlong plant execution) (number : ℕ) → HasNode plant along.node number
    → HasNode plant along.next number
unfolding BlocksAreClosed
has_next plant is execution along number inside =
    let block = there_is (slice_get plant.blocks.blocks number) _ inside in
    some_is (slice_get plant.blocks.blocks number) _ block.item block.there
    (blocks_are_closed plant is number block.item along.node along.next block.there block.holds along.instruction along.edge)

along_inside : (plant : PlantData) → IsPlant plant → (blocks : List (Option ℕ)) (execution : Execution) → GoesAlong plant execution
    → IsInside plant blocks execution.context execution.before → IsInside plant blocks execution.context execution.after
along_inside plant is blocks execution along inside = record {
  node = along.next;
  stands = along.arrives;
  block = inside.block;
  began = inside.began;
  inside = has_next plant is execution along inside.block (is_inside plant blocks execution.context execution.before along.node inside along.stands);
}

pub execute_inside : (plant : PlantData) → IsPlant plant → (blocks : List (Option ℕ)) (execution : Execution) (before after : MachineState)
    → IsStateOf plant.system before
    → Executes plant.image plant.system execution before after → GoesAlong plant execution → StandInside plant blocks before → StandInside plant blocks after
execute_inside plant is blocks execution before after fits step along inside =
    let runs : IsContext plant.system execution.context = running_exists plant.system before execution.context fits step.running in
    let now = along_inside plant is blocks execution along (inside execution.context execution.before runs step.stands) in
    subst (StandInside plant blocks) (sym step.becomes)
    (λ context standing exists at. elim (after_placed plant.system execution.context context
    (Some execution.after) standing before.standings runs exists fits.positions.count at) [
      | inl here ↦ subst (λ (c : Context). IsInside plant blocks c standing) (sym here.0)
          (subst (IsInside plant blocks execution.context) (same_Some execution.after standing here.1) now)
      | inr stood ↦ inside context standing exists stood
    ])

-- ---- After a source is taken

pub take_inside : (plant : PlantData) → IsPlant plant → (blocks : List (Option ℕ)) (taking : Taking) (before after : MachineState)
    → IsStateOf plant.system before
    → length blocks ≡ context_count plant.system → Takes plant.image plant.system taking before after → StandInside plant blocks before
    → StandInside plant (started plant.system (entry_block plant) taking.started blocks) after
take_inside plant is blocks taking before after fits count step inside =
    let who = (taken_by plant.system taking.source before).started in
    let others : List (Option ℕ) = started plant.system (entry_block plant) who blocks in
    subst (λ (w : Option Context). StandInside plant (started plant.system (entry_block plant) w blocks) after) (sym step.started)
    (subst (StandInside plant others) (sym step.becomes)
    (λ context standing exists at. elim (started_together plant.system (at_entry plant.image plant.system taking.registers)
    (entry_block plant) who context standing before.standings blocks
    (who_exists plant is taking before after fits step) exists fits.positions.count count at) [
      | inl begun ↦ begins_inside plant is others context taking.registers standing exists begun.0 begun.1
      | inr stood ↦ moved plant blocks others context standing stood.1 (inside context standing exists stood.0)
    ]))

-- ---- After a service

code_fits : (code : Code) → code_number code < 2 ^ 32
code_fits Done = omega arith
code_fits Access = omega arith
code_fits CallLevel = omega arith
code_fits Limit = omega arith
code_fits NoFunction = omega arith
code_fits Resource = omega arith
code_fits State = omega arith

-- the caller that goes on, if the service isn't misused
pub goes_on_inside : (plant : PlantData) → IsPlant plant → (call : ServiceCall) (before after : MachineState)
    → Serves plant.image plant.system call before after → (asks : AsksAt plant call)
    → (served_by plant.system call before).reply.misuse ≡ false → (served_by plant.system call before).reply.ended ≡ None
    → GoesOnAt plant call asks.at.number (gone_on (served_by plant.system call before).reply.code call.before)
goes_on_inside plant is call before after step asks clean stays =
    let code = (served_by plant.system call before).reply.code in
    let are : AreRegisters (with_value call.before.registers 10 (code_number code)) =
    with_value_keeps call.before.registers 10 (code_number code) asks.at.stands.fits.registers_fit (omega arith) (code_fits code) in
    goes_on_at plant is call before after (with_value call.before.registers 10 (code_number code)) step asks are clean stays

-- its block is the one behind the service
pub begins_behind : (plant : PlantData) (call : ServiceCall) (asks : AsksAt plant call) (next : Standing)
    → (goes : GoesOnAt plant call asks.at.number next) → block_after plant call ≡ Some goes.block
begins_behind plant call asks next goes = ap (option_and_then (block_behind plant)) asks.at.found ∙ goes.behind

activated : (system : System) (call : ServiceCall) (before : MachineState) (reply : Option ℕ) → ((t : ℕ) → reply ≡ Some t → t < length system.tasks)
    → (d : Context) → option_map contexts.Task reply ≡ Some d → IsContext system d
activated system call before None exist d e = absurd (none-some d e)
activated system call before (Some t) exist d e = subst (IsContext system) (same_Some (contexts.Task t) d e) (exist t refl)

pub serve_inside : (plant : PlantData) → IsPlant plant → (blocks : List (Option ℕ)) (call : ServiceCall) (before after : MachineState)
    → IsStateOf plant.system before
    → length blocks ≡ context_count plant.system → Serves plant.image plant.system call before after → (asks : AsksAt plant call)
    → (served_by plant.system call before).reply.misuse ≡ false → StandInside plant blocks before
    → StandInside plant (answered plant.system (entry_block plant) call.caller (block_after plant call) call.reply blocks) after
serve_inside plant is blocks call before after fits count step asks clean inside =
    let done = served_by plant.system call before in
    let next = gone_on done.reply.code call.before in
    let others : List (Option ℕ) = answered plant.system (entry_block plant) call.caller (block_after plant call) done.reply blocks in
    let exist = activated plant.system call before done.reply.activated
    (served_exists plant.system before.kernel call.caller call.service (argument_in call.before) step.argument) in
    subst (λ r. StandInside plant (answered plant.system (entry_block plant) call.caller (block_after plant call) r blocks) after) (sym step.replied)
    (subst (StandInside plant others) (sym step.becomes)
    (λ context standing exists at. elim (answered_together plant.system (at_entry plant.image plant.system call.registers)
    (entry_block plant) call.caller next (block_after plant call)
    done.reply context standing before.standings blocks exist (running_exists plant.system before call.caller fits step.running) exists
    fits.positions.count count at) [
      | inl begun ↦ begins_inside plant is others context call.registers standing exists begun.0 begun.1
      | inr (inl here) ↦ behind context standing here.0 here.1 here.2 here.3
      | inr (inr stood) ↦ moved plant blocks others context standing stood.1 (inside context standing exists stood.0)
    ]))
  where
    behind : (context : Context) (standing : Standing) → context ≡ call.caller → (served_by plant.system call before).reply.ended ≡ None
        → gone_on (served_by plant.system call before).reply.code call.before ≡ standing
        → position_of plant.system (answered plant.system (entry_block plant) call.caller (block_after plant call)
        (served_by plant.system call before).reply blocks) context ≡ block_after plant call
        → IsInside plant (answered plant.system (entry_block plant) call.caller (block_after plant call)
        (served_by plant.system call before).reply blocks) context standing
    behind context standing caller stays same began =
        let goes = goes_on_inside plant is call before after step asks clean stays in
        record {
          node = goes.number;
          stands = ap (λ (c : Context). node_of plant c standing) caller ∙ (ap (node_of plant call.caller) (sym same) ∙ goes.stands);
          block = goes.block;
          began = began ∙ begins_behind plant call asks (gone_on (served_by plant.system call before).reply.code call.before) goes;
          inside = goes.inside;
        }
