-- An instruction step of a context that walks follows an edge between two numbers.
use Rattle.std.proofs.Common.{◌≡◌, ℕ, false, Option, Some, None, sym, ◌∙◌, ap, subst}
use Rattle.std.specs.Prelude.{IfSome, option_map}
use Rattle.elf_image.specs.Image.{ImageData}
use Rattle.rv32_decode.specs.declared.instruction.Insn.{Insn}
use Rattle.rv32_machine.specs.Code.{insn_at}
use Rattle.rv32_machine.specs.ContextStep.{Standing, IsPaired, turn_from}
use Rattle.rv32_machine.specs.Places.{pair_at, turn_of, turn_at, service_at}
use Rattle.rv32_machine.proofs.StepLaws.{image_fits}
use Rattle.osek_kernel.specs.Contexts.{IsContext}
use Rattle.osek_machine.specs.State.{MachineState}
use Rattle.osek_machine.specs.Events.{Execution, Execute}
use Rattle.osek_machine.specs.Steps.{Executes}
use Rattle.osek_machine.specs.Room.{IsStateOf}
use Rattle.osek_machine.specs.Declarations.{ReturnsPaired}
use Rattle.osek_machine.proofs.Kept.{running_exists}
use Rattle.flow_graph.specs.Standing.{StepsFollowEdges}
use Rattle.flow_graph.proofs.Law.{steps_follow_edges}
use Rattle.graph_runs.specs.Walking.{AreWalking}
use Rattle.wcet_atomic_blocks.specs.Blocks.{HasEdge, is_service}
use Rattle.wcet_atomic_blocks.specs.Plants.{PlantData, IsPlant}
use Rattle.shadow_runs.specs.Shadow.{node_of}
use Rattle.shadow_runs.proofs.Numbers.{at_node, at_number, edge_of, target_there, is_service_there, executes_no_service}
use Rattle.shadow_runs.proofs.Planted.{program_in}

paired : (image : ImageData) (insn : Insn) (before after : Standing) → insn_at image before.place ≡ Some insn
    → IfSome (turn_at (insn_at image) before.place) (λ turn. IsPaired turn before.calls after.place)
    → IsPaired (turn_from (insn_at image) insn before) before.calls after.place
paired image insn before after fetched pairs =
    subst (λ (found : Option Insn). IfSome (option_map (turn_of (pair_at (insn_at image) before.place) before.place) found)
    (λ turn. IsPaired turn before.calls after.place)) fetched pairs

pub record GoesAlong (plant : PlantData) (execution : Execution) : Type 0 where
  pub node : ℕ
  pub stands : node_of plant execution.context execution.before ≡ Some node
  pub next : ℕ
  pub arrives : node_of plant execution.context execution.after ≡ Some next
  pub edge : HasEdge plant.flow node next
  pub instruction : is_service plant.flow node ≡ false

pub goes_along : (plant : PlantData) → IsPlant plant → (execution : Execution) (before after : MachineState) → IsStateOf plant.system before
    → Executes plant.image plant.system execution before after → ReturnsPaired plant.image (Execute execution)
    → AreWalking (program_in plant) plant.system before → GoesAlong plant execution
unfolding StepsFollowEdges
goes_along plant is execution before after fits step pairs walking =
    let exists : IsContext plant.system execution.context = running_exists plant.system before execution.context fits step.running in
    let at = at_node plant is execution.context execution.before (walking.walks execution.context execution.before exists step.stands) in
    let insn : Insn = step.step.insn in
    let follows = steps_follow_edges (program_in plant) (image_fits plant.image) at.node execution.device before.memory after.memory execution.before
    execution.after at.faultless
    at.stands walking.bytes step.step (paired plant.image insn execution.before execution.after step.step.fetched pairs) in
    let to = target_there plant is at.number at.node _ follows.edge follows.next at.listed follows.leaves follows.arrives in
    let none : service_at (insn_at plant.image) at.node.address ≡ None =
    ap (service_at (insn_at plant.image)) (sym at.stands.place_is)
    ∙ executes_no_service (insn_at plant.image) insn execution.before.place execution.before.registers before.memory execution.device step.step.effect
    step.step.fetched step.step.does in
    record {
      node = at.number;
      stands = at.found;
      next = to.target;
      arrives = at_number plant is execution.context execution.after to.target follows.next to.listed
          (follows.context_is ∙ at.context_is) follows.stands.calls_are follows.stands.place_is;
      edge = edge_of plant at.number _ follows.next to;
      instruction = is_service_there plant is at.number at.node None at.listed none;
    }
