-- A service that a walking context calls: what its node asks for, and the block behind it.
use Rattle.std.proofs.Common.{◌≡◌, ◌≢◌, ℕ, true, false, cond, List, [], Option, Some, None, refl, sym, ◌∙◌, ap, subst, arith, is_some}
use Rattle.std.specs.Prelude.{slice_get, option_and_then}
use Rattle.std.specs.Option.{option_map_or}
use Rattle.std.proofs.lemmas.Option.{same_Some, slice_get_within}
use Rattle.rv32_decode.specs.declared.instruction.Insn.TheVariants.{Ecall}
use Rattle.rv32_machine.specs.Code.{insn_at}
use Rattle.rv32_machine.specs.ContextStep.{Standing}
use Rattle.rv32_machine.specs.Execution.{following}
use Rattle.rv32_machine.specs.Places.{service_at}
use Rattle.rv32_machine.specs.Registers.{AreRegisters}
use Rattle.osek_kernel.specs.Contexts.{IsContext}
use Rattle.osek_machine.specs.State.{MachineState}
use Rattle.osek_machine.specs.Events.{ServiceCall}
use Rattle.osek_machine.specs.Steps.{Serves, served_by, number_in, argument_in}
use Rattle.osek_machine.specs.Room.{IsStateOf}
use Rattle.osek_machine.proofs.Kept.{running_exists}
use Rattle.flow_graph.specs.declared.flow.Leaving.{Leaving}
use Rattle.flow_graph.specs.Graph.{ends_by, next_node, edges_of}
use Rattle.flow_graph.specs.Walks.{EcallsServe, ServicesGoOn}
use Rattle.flow_graph.specs.Walks as graph
use Rattle.flow_graph.proofs.WalkLaws.{ecalls_serve, services_go_on}
use Rattle.graph_runs.specs.Walking.{AreWalking}
use Rattle.graph_runs.proofs.Ending as ending
use Rattle.wcet_atomic_blocks.specs.Blocks.{edges_at, onward, successor}
use Rattle.wcet_atomic_blocks.specs.PlantLaws.{HasNode, BeginsBehind, AftersBegin, FirstIsInside, ServicesHaveBlocks}
use Rattle.wcet_atomic_blocks.specs.Plants.{PlantData, IsPlant}
use Rattle.wcet_atomic_blocks.proofs.PlantFacts.{afters_begin, first_is_inside, services_have_blocks}
use Rattle.scheduler_moves.specs.Moves.{block_behind}
use Rattle.shadow_runs.specs.Shadow.{node_of}
use Rattle.shadow_runs.proofs.Numbers.{IsAtNode, at_node, at_number, HasTarget, target_there, leaves_there}
use Rattle.shadow_runs.proofs.Planted.{program_in, there_is, some_is}

-- ---- What is asked for

-- The caller stands at a node where that service stands, with its argument.
pub record AsksAt (plant : PlantData) (call : ServiceCall) : Type 0 where
  pub at : IsAtNode plant call.caller call.before
  pub ecall : insn_at plant.image at.node.address ≡ Some Ecall
  pub serves : graph.Serves (program_in plant) call.before.place call.before.registers
  pub service_is : service_at (insn_at plant.image) at.node.address ≡ Some serves.service

pub asks_at : (plant : PlantData) → IsPlant plant → (call : ServiceCall) (before after : MachineState) → IsStateOf plant.system before
    → Serves plant.image plant.system call before after → AreWalking (program_in plant) plant.system before → AsksAt plant call
unfolding EcallsServe
asks_at plant is call before after fits step walking =
    let exists : IsContext plant.system call.caller = running_exists plant.system before call.caller fits step.running in
    let at = at_node plant is call.caller call.before (walking.walks call.caller call.before exists step.stands) in
    let serves = ecalls_serve (program_in plant) at.node call.before at.faultless at.stands step.fetched in
    record {
      at = at;
      ecall = ap (insn_at plant.image) (sym at.stands.place_is) ∙ step.fetched;
      serves = serves;
      service_is = ap (service_at (insn_at plant.image)) (sym at.stands.place_is) ∙ serves.stands;
    }

-- ---- The block behind it

-- a service that goes on has a successor by its first edge
goes_by_first : (leaving : Leaving) (next : ℕ) → is_some leaving.service ≡ true
    → option_and_then (λ edge. edge.to) (slice_get leaving.edges 0) ≡ Some next → onward leaving ≡ Some next
goes_by_first leaving next some first = ap (λ b. cond b (option_and_then (λ edge. edge.to) (slice_get leaving.edges 0)) None) some ∙ first

some_block : (after : Option ℕ) → after ≢ None → (block : ℕ) × (after ≡ Some block)
some_block (Some block) some = (block, refl)
some_block None some = absurd (some refl)

-- where the caller goes on it stands at a node of the block behind the service
pub record GoesOnAt (plant : PlantData) (call : ServiceCall) (node : ℕ) (next : Standing) : Type 0 where
  pub block : ℕ
  pub behind : block_behind plant node ≡ Some block
  pub number : ℕ
  pub stands : node_of plant call.caller next ≡ Some number
  pub inside : HasNode plant number block

-- the block of the node to which a service's successor leads
behind_there : (plant : PlantData) → IsPlant plant → (node target : ℕ) → successor plant.flow node ≡ Some target
    → (block : ℕ) × (block_behind plant node ≡ Some block) × HasNode plant target block
unfolding ServicesHaveBlocks AftersBegin FirstIsInside
behind_there plant is node target goes =
    let after = there_is (slice_get plant.blocks.afters node) (λ after. after ≢ None) (services_have_blocks plant is node target goes) in
    let block = some_block after.item after.holds in
    let there : slice_get plant.blocks.afters node ≡ Some (Some block.0) = after.there ∙ ap Some block.1 in
    let begins = there_is (slice_get plant.blocks.blocks block.0) (BeginsBehind plant node) (afters_begin plant is node block.0 there) in
    let first : begins.item.begin.first ≡ target = same_Some begins.item.begin.first target (sym begins.holds.first ∙ goes) in (
      block.0,
      ap (option_and_then (λ (behind : Option ℕ). behind)) there,
      subst (λ (n : ℕ). HasNode plant n block.0) first
          (some_is (slice_get plant.blocks.blocks block.0) _ begins.item begins.there (first_is_inside plant is block.0 begins.item begins.there)),
    )

successor_there : (plant : PlantData) → IsPlant plant → (call : ServiceCall) (asks : AsksAt plant call) (place target : ℕ) → place ≡ 0
    → (has : HasTarget plant asks.at.number place (next_node asks.at.node)) → successor plant.flow asks.at.number ≡ Some has.target
successor_there plant is call asks place target start has =
    let leaves = leaves_there plant is asks.at.number asks.at.node asks.at.listed in
    let edges : edges_at plant.flow asks.at.number ≡ leaves.leaving.edges = ap
    (λ (o : Option Leaving). option_map_or (λ (l : Leaving). l.edges) o []) leaves.listed in
    let first : option_and_then (λ edge. edge.to) (slice_get leaves.leaving.edges 0) ≡ Some has.target =
    ap (option_and_then (λ edge. edge.to)) (ap (λ es. slice_get es 0) (sym edges)
    ∙ (ap (slice_get (edges_at plant.flow asks.at.number)) (sym start) ∙ has.leaves)) ∙ has.arrives in
    let some : is_some leaves.leaving.service ≡ true = ap is_some (leaves.are.service_is ∙ asks.service_is) in
    ap (option_and_then onward) leaves.listed ∙ goes_by_first leaves.leaving has.target some first

pub goes_on_at : (plant : PlantData) → IsPlant plant → (call : ServiceCall) (before after : MachineState) (registers : List ℕ)
    → Serves plant.image plant.system call before after
    → (asks : AsksAt plant call) → AreRegisters registers → (served_by plant.system call before).reply.misuse ≡ false
    → (served_by plant.system call before).reply.ended ≡ None
    → GoesOnAt plant call asks.at.number (graph.standing_at registers (following call.before.place) call.before.calls)
unfolding ServicesGoOn
goes_on_at plant is call before after registers step asks are clean stays =
    let on : ends_by (number_in call.before) ≡ false =
    ending.goes_on plant.system before.kernel call.caller call.service (number_in call.before) (argument_in call.before) step.service clean stays in
    let goes = services_go_on (program_in plant) asks.at.node asks.serves.service registers asks.at.faultless asks.ecall
    asks.service_is (ap ends_by (sym asks.serves.number_is) ∙ on) are in
    let to = target_there plant is asks.at.number asks.at.node goes.leads.number goes.leads.edge
    (next_node asks.at.node) asks.at.listed goes.leads.leaves goes.leads.arrives in
    let zero : goes.leads.number ≡ 0 = (let within = slice_get_within
    (edges_of (insn_at plant.image) asks.at.node) goes.leads.number goes.leads.edge goes.leads.leaves in let only = goes.only in omega arith) in
    let behind = behind_there plant is asks.at.number to.target (successor_there plant is call asks goes.leads.number to.target zero to) in
    record {
      block = behind.0;
      behind = behind.1;
      number = to.target;
      stands = at_number plant is call.caller (graph.standing_at registers (following call.before.place) call.before.calls) to.target
          (next_node asks.at.node) to.listed asks.at.context_is
          asks.at.stands.calls_are (ap following asks.at.stands.place_is);
      inside = behind.2;
    }
