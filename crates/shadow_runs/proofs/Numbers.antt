-- Nodes of a plant by their numbers: where a context stands, and where it goes.
use Rattle.std.proofs.Common.{◌≡◌, ℕ, false, List, [], Option, Some, None, refl, ◌∙◌, ap, subst, is_some}
use Rattle.std.specs.Prelude.{slice_get, option_and_then}
use Rattle.std.specs.Option.{option_map_or}
use Rattle.std.proofs.lemmas.Option.{none-some}
use Rattle.rv32_decode.specs.declared.instruction.Insn.{Insn}
use Rattle.rv32_decode.specs.declared.instruction.Insn.TheVariants.{Lui, Auipc, Jal, Jalr, Branch, Load, Save, Imm, Reg, Fence, Ecall, Ebreak}
use Rattle.rv32_machine.specs.declared.turns.ServiceAt.{ServiceAt}
use Rattle.rv32_machine.specs.Code.{insn_at}
use Rattle.rv32_machine.specs.ContextStep.{Standing}
use Rattle.rv32_machine.specs.Execution.{Effect, executed}
use Rattle.rv32_machine.specs.Places.{constant_in, service_of, service_at, preceding}
use Rattle.rv32_machine.proofs.StepLaws.{image_fits}
use Rattle.osek_kernel.specs.declared.context.Context.{Context}
use Rattle.osek_kernel.specs.Contexts.{place_of}
use Rattle.flow_graph.specs.declared.edge.Edge.{Edge}
use Rattle.flow_graph.specs.declared.flow.Leaving.{Leaving}
use Rattle.flow_graph.specs.declared.node.Node.{Node}
use Rattle.flow_graph.specs.Faults.{fault_of, IsNode}
use Rattle.flow_graph.specs.Graph.{edges_of}
use Rattle.flow_graph.specs.Judging.{IsTarget, IsEdge, IsLeaving}
use Rattle.flow_graph.specs.Standing.{StandsAt}
use Rattle.flow_graph.specs.Walks.{Walk, WalksStayOnGraph}
use Rattle.flow_graph.proofs.WalkLaws.{walks_stay_on_graph}
use Rattle.wcet_atomic_blocks.specs.Blocks.{HasEdge, is_service, edges_at}
use Rattle.wcet_atomic_blocks.specs.Plants.{PlantData, IsPlant}
use Rattle.wcet_atomic_blocks.proofs.GraphFacts.{beside_first}
use Rattle.shadow_runs.specs.Shadow.{node_of}
use Rattle.shadow_runs.proofs.Finding.{found_on, found_at}
use Rattle.shadow_runs.proofs.Planted.{program_in, have_graph}

-- ---- Where a context stands

pub record IsAtNode (plant : PlantData) (context : Context) (standing : Standing) : Type 0 where
  pub node : Node
  pub number : ℕ
  pub found : node_of plant context standing ≡ Some number
  pub listed : slice_get plant.flow.nodes number ≡ Some node
  pub context_is : node.context ≡ place_of plant.system context
  pub reached : IsNode (program_in plant) node
  pub faultless : fault_of (program_in plant) node ≡ None
  pub stands : StandsAt (insn_at plant.image) node standing

-- a context that has walked stands at a node
pub at_node : (plant : PlantData) → IsPlant plant → (context : Context) (standing : Standing) → Walk (program_in plant) (place_of plant.system context) standing
    → IsAtNode plant context standing
unfolding WalksStayOnGraph
at_node plant is context standing walk =
    let clear = (have_graph plant is).faultless in
    let on = walks_stay_on_graph (program_in plant) clear (image_fits plant.image) (place_of plant.system context) standing walk in
    let first = found_on (program_in plant) plant.flow.nodes (place_of plant.system context) standing is.graph.graph.nodes on in
    record {
      node = on.node;
      number = first.number;
      found = first.found;
      listed = first.stands;
      context_is = on.context_is;
      reached = on.reached;
      faultless = clear.none on.node on.reached;
      stands = on.stands;
    }

-- it is found by the number of the node at which it stands
pub at_number : (plant : PlantData) → IsPlant plant → (context : Context) (standing : Standing) (number : ℕ) (node : Node)
    → slice_get plant.flow.nodes number ≡ Some node
    → node.context ≡ place_of plant.system context → standing.calls ≡ node.sites → standing.place ≡ node.address → node_of plant context standing ≡ Some number
at_number plant is context standing number node listed here calls place =
    found_at plant.flow.nodes (place_of plant.system context) standing number node is.graph.graph.nodes.are.order listed here calls place

-- ---- What leaves a node

pub record Leaves (plant : PlantData) (number : ℕ) (node : Node) : Type 0 where
  pub leaving : Leaving
  pub listed : slice_get plant.flow.leaving number ≡ Some leaving
  pub are : IsLeaving (program_in plant) plant.flow.nodes node leaving

pub leaves_there : (plant : PlantData) → IsPlant plant → (number : ℕ) (node : Node) → slice_get plant.flow.nodes number ≡ Some node → Leaves plant number node
leaves_there plant is number node listed =
    let l = beside_first (IsLeaving (program_in plant) plant.flow.nodes) plant.flow.nodes plant.flow.leaving number node is.graph.graph.leaving listed in
    record { leaving = l.0; listed = l.1; are = l.2 }

-- an edge between numbers, to the node where an edge leads
pub record HasTarget (plant : PlantData) (number place : ℕ) (next : Node) : Type 0 where
  pub edge : Edge ℕ
  pub target : ℕ
  pub leaves : slice_get (edges_at plant.flow number) place ≡ Some edge
  pub arrives : edge.to ≡ Some target
  pub listed : slice_get plant.flow.nodes target ≡ Some next

pub edge_of : (plant : PlantData) (number place : ℕ) (next : Node) → (has : HasTarget plant number place next) → HasEdge plant.flow number has.target
edge_of plant number place next has = record { number = place; edge = has.edge; leaves = has.leaves; arrives = has.arrives }

numbered : (nodes : List Node) (next : Node) (to : Option ℕ) → IsTarget nodes (Some next) to
    → (target : ℕ) × (to ≡ Some target) × (slice_get nodes target ≡ Some next)
numbered nodes next (Some target) is = (target, refl, is)
numbered nodes next None is = absurd is

pub target_there : (plant : PlantData) → IsPlant plant → (number : ℕ) (node : Node) (place : ℕ) (edge : Edge Node) (next : Node)
    → slice_get plant.flow.nodes number ≡ Some node → slice_get (edges_of (insn_at plant.image) node) place ≡ Some edge → edge.to ≡ Some next
    → HasTarget plant number place next
target_there plant is number node place edge next listed leaves arrives =
    let there = leaves_there plant is number node listed in
    let e = beside_first (IsEdge plant.flow.nodes) (edges_of (insn_at plant.image) node) there.leaving.edges place edge there.are.edges_are leaves in
    let to = numbered plant.flow.nodes next e.0.to (subst (λ (o : Option Node). IsTarget plant.flow.nodes o e.0.to) arrives e.2.to_is) in
    record {
      edge = e.0;
      target = to.0;
      leaves = ap (λ (o : Option Leaving). slice_get (option_map_or (λ (l : Leaving). l.edges) o []) place) there.listed ∙ e.1;
      arrives = to.1;
      listed = to.2;
    }

-- ---- Whether a node is an ECALL

pub service_there : (plant : PlantData) → IsPlant plant → (number : ℕ) (node : Node) (service : Option ServiceAt)
    → slice_get plant.flow.nodes number ≡ Some node
    → service_at (insn_at plant.image) node.address ≡ service → option_and_then (λ (l : Leaving). l.service) (slice_get plant.flow.leaving number) ≡ service
service_there plant is number node service listed at =
    let there = leaves_there plant is number node listed in
    ap (option_and_then (λ (l : Leaving). l.service)) there.listed ∙ (there.are.service_is ∙ at)

pub is_service_there : (plant : PlantData) → IsPlant plant → (number : ℕ) (node : Node) (service : Option ServiceAt)
    → slice_get plant.flow.nodes number ≡ Some node
    → service_at (insn_at plant.image) node.address ≡ service → is_service plant.flow number ≡ is_some service
is_service_there plant is number node service listed at =
    let there = leaves_there plant is number node listed in
    ap (λ (o : Option Leaving). option_map_or (λ (l : Leaving). is_some l.service) o false) there.listed ∙ ap is_some (there.are.service_is ∙ at)

-- an instruction that is executed ends no service
no_service : (argument number : Option ℕ) (insn : Insn) (place : ℕ) (registers : List ℕ) (memory : ℕ → Option ℕ) (device : ℕ) (effect : Effect)
    → executed insn place registers memory device ≡ Some effect → service_of argument number (Some insn) ≡ None
no_service None number insn place registers memory device effect does = refl
no_service (Some argument) None insn place registers memory device effect does = refl
no_service (Some argument) (Some number) Ecall place registers memory device effect does = absurd (none-some effect does)
no_service (Some argument) (Some number) Ebreak place registers memory device effect does = refl
no_service (Some argument) (Some number) (Lui rd imm) place registers memory device effect does = refl
no_service (Some argument) (Some number) (Auipc rd imm) place registers memory device effect does = refl
no_service (Some argument) (Some number) (Jal rd offset) place registers memory device effect does = refl
no_service (Some argument) (Some number) (Jalr rd rs1 offset) place registers memory device effect does = refl
no_service (Some argument) (Some number) (Branch op rs1 rs2 offset) place registers memory device effect does = refl
no_service (Some argument) (Some number) (Load op rd rs1 offset) place registers memory device effect does = refl
no_service (Some argument) (Some number) (Save op rs1 rs2 offset) place registers memory device effect does = refl
no_service (Some argument) (Some number) (Imm op rd rs1 imm) place registers memory device effect does = refl
no_service (Some argument) (Some number) (Reg op rd rs1 rs2) place registers memory device effect does = refl
no_service (Some argument) (Some number) (Fence rd rs1 imm) place registers memory device effect does = refl

pub executes_no_service : (code : ℕ → Option Insn) (insn : Insn) (place : ℕ) (registers : List ℕ) (memory : ℕ → Option ℕ) (device : ℕ) (effect : Effect)
    → code place ≡ Some insn → executed insn place registers memory device ≡ Some effect → service_at code place ≡ None
executes_no_service code insn place registers memory device effect fetched does =
    ap (service_of (option_and_then (constant_in 10) (code (preceding (preceding place)))) (option_and_then (constant_in 17) (code (preceding place)))) fetched
    ∙ no_service (option_and_then (constant_in 10) (code (preceding (preceding place))))
    (option_and_then (constant_in 17) (code (preceding place))) insn place registers memory device effect does
