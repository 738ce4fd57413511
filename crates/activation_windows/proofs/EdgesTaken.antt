-- The edge along which an instruction step goes: it is that of the window's column, it leads to the node at which the
-- context stands then, and it is of the kind that the instruction's cost asks for.
use Rattle.std.proofs.Common.{◌≡◌, ℕ, zero, suc, Bool, true, false, cond, List, [], ◌∷◌, ◌-◌, length, Option, Some, None, refl, sym, ◌∙◌, ap, subst}
use Rattle.std.specs.Prelude.{◌==◌, ◌&&◌, IfSome, slice_get, option_and_then, option_map}
use Rattle.std.specs.Option.{option_map_or}
use Rattle.std.proofs.lemmas.Option.{none-some, same_Some}
use Rattle.elf_image.specs.Image.{ImageData}
use Rattle.rv32_decode.specs.declared.instruction.Insn.{Insn}
use Rattle.rv32_decode.specs.declared.instruction.Insn.TheVariants.{Lui, Auipc, Jal, Jalr, Branch, Load, Save, Imm, Reg, Fence, Ecall, Ebreak}
use Rattle.rv32_machine.specs.declared.turns.Pair.{Pair}
use Rattle.rv32_machine.specs.declared.turns.ServiceAt.{ServiceAt}
use Rattle.rv32_machine.specs.declared.turns.Turn.{Turn}
use Rattle.rv32_machine.specs.declared.turns.Turn.TheVariants.{Onward, Branching, Jumping, Calling, Returning, Serving, Indirect, Breaking}
use Rattle.rv32_machine.specs.Code.{insn_at}
use Rattle.rv32_machine.specs.ContextStep.{Standing, IsPaired, turn_from}
use Rattle.rv32_machine.specs.Execution.{word_of, branch_holds}
use Rattle.rv32_machine.specs.Places.{pair_at, turn_of, turn_at, service_at}
use Rattle.rv32_machine.proofs.StepLaws.{image_fits}
use Rattle.osek_kernel.specs.Contexts.{IsContext}
use Rattle.osek_machine.specs.State.{MachineState}
use Rattle.osek_machine.specs.Events.{Execution, Execute}
use Rattle.osek_machine.specs.Steps.{Executes}
use Rattle.osek_machine.specs.Room.{IsStateOf}
use Rattle.osek_machine.specs.Declarations.{ReturnsPaired, takes_branch}
use Rattle.osek_machine.proofs.Kept.{running_exists}
use Rattle.flow_graph.specs.declared.edge.Edge.{Edge}
use Rattle.flow_graph.specs.declared.edge.EdgeKind.TheVariants as kinds
use Rattle.flow_graph.specs.declared.flow.Leaving.{Leaving}
use Rattle.flow_graph.specs.declared.node.Node.{Node}
use Rattle.flow_graph.specs.Graph.{edge_to, edges_for, returned_node, edges_by, edges_of}
use Rattle.flow_graph.specs.Judging.{IsEdge, IsTarget}
use Rattle.flow_graph.specs.Standing.{StandsAt, StepsFollowEdges, edge_number}
use Rattle.flow_graph.proofs.Law.{steps_follow_edges}
use Rattle.graph_runs.specs.Walking.{AreWalking}
use Rattle.wcet_atomic_blocks.specs.Blocks.{edges_at, is_service}
use Rattle.wcet_atomic_blocks.specs.Plants.{PlantData, IsPlant}
use Rattle.wcet_atomic_blocks.proofs.GraphFacts.{beside_first}
use Rattle.row_build.specs.Columns.{is_taken}
use Rattle.shadow_runs.specs.Shadow.{node_of}
use Rattle.shadow_runs.proofs.Numbers.{IsAtNode, at_node, at_number, leaves_there, is_service_there, executes_no_service}
use Rattle.shadow_runs.proofs.Planted.{program_in}
use Rattle.activation_windows.specs.Windows.{along_at, along_of, edge_taken}

-- ---- Of which kind the edge is

abbrev is_branching : Turn → Bool
is_branching (Branching target) = true
is_branching turn = false

only_edge : (one edge : Edge Node) (i : ℕ) → slice_get (one ∷ []) i ≡ Some edge → is_taken one.kind ≡ false → is_taken edge.kind ≡ false
only_edge one edge zero at straight = let same : one ≡ edge = cc in ap (λ (e : Edge Node). is_taken e.kind) (sym same) ∙ straight
only_edge one edge (suc i) at straight = absurd cc

-- only a branch has an edge that is taken
never_taken : (service : Option ServiceAt) (node : Node) (turn : Turn) (i : ℕ) (edge : Edge Node) → is_branching turn ≡ false
    → slice_get (edges_by service node turn) i ≡ Some edge → is_taken edge.kind ≡ false
never_taken service node Onward i edge straight at = only_edge _ edge i at refl
never_taken service node (Branching target) i edge straight at = absurd cc
never_taken service node (Jumping target) i edge straight at = only_edge _ edge i at refl
never_taken service node (Calling target) i edge straight at = only_edge _ edge i at refl
never_taken service node Returning i edge straight at = behind (slice_get node.sites (length node.sites - 1)) at
  where
    behind : (site : Option ℕ) → slice_get (edges_for (λ s. edge_to kinds.Return (returned_node node s)) site) i ≡ Some edge → is_taken edge.kind ≡ false
    behind None there = absurd (none-some edge there)
    behind (Some s) there = only_edge _ edge i there refl
never_taken None node Serving i edge straight at = absurd (none-some edge at)
never_taken (Some service) node Serving i edge straight at = only_edge _ edge i at refl
never_taken service node Indirect i edge straight at = absurd (none-some edge at)
never_taken service node Breaking i edge straight at = absurd (none-some edge at)

linked_straight : (zero_rd one_rd : Bool) (target : ℕ) → is_branching (cond zero_rd (Jumping target) (cond one_rd (Calling target) Indirect)) ≡ false
linked_straight true one_rd target = refl
linked_straight false true target = refl
linked_straight false false target = refl

alone_straight : (is_return : Bool) → is_branching (cond is_return Returning Indirect) ≡ false
alone_straight true = refl
alone_straight false = refl

same_kind : (one edge : Edge Node) → Some one ≡ Some edge → one.kind ≡ edge.kind
same_kind one edge e = ap (λ (x : Edge Node). x.kind) (same_Some one edge e)

branch_taken : (service : Option ServiceAt) (node : Node) (target : ℕ) (holds : Bool) (edge : Edge Node)
    → slice_get (edges_by service node (Branching target)) (cond holds 1 0) ≡ Some edge → is_taken edge.kind ≡ holds
branch_taken service node target true edge at = ap is_taken (sym (same_kind _ edge at))
branch_taken service node target false edge at = ap is_taken (sym (same_kind _ edge at))

taken_where_holds : (service : Option ServiceAt) (node : Node) (pair : Option Pair) (place : ℕ) (insn : Insn) (registers : List ℕ) (edge : Edge Node)
    → slice_get (edges_by service node (turn_of pair place insn)) (edge_number insn registers) ≡ Some edge → is_taken edge.kind ≡ takes_branch insn registers
taken_where_holds service node pair place (Lui rd imm) registers edge at = never_taken service node Onward 0 edge refl at
taken_where_holds service node pair place (Auipc rd imm) registers edge at = never_taken service node Onward 0 edge refl at
taken_where_holds service node pair place (Jal rd offset) registers edge at =
    never_taken service node (turn_of pair place (Jal rd offset)) 0 edge (linked_straight (rd == 0) (rd == 1) _) at
taken_where_holds service node None place (Jalr rd rs1 offset) registers edge at =
    never_taken service node (turn_of None place (Jalr rd rs1 offset)) 0 edge (alone_straight ((rd == 0) && (rs1 == 1) && (word_of offset == 0))) at
taken_where_holds service node (Some pair) place (Jalr rd rs1 offset) registers edge at =
    never_taken service node (turn_of (Some pair) place (Jalr rd rs1 offset)) 0 edge (linked_straight (rd == 0) (rd == 1) pair.target) at
taken_where_holds service node pair place (Branch op rs1 rs2 offset) registers edge at = branch_taken service node _ (branch_holds op rs1 rs2 registers) edge at
taken_where_holds service node pair place (Load op rd rs1 offset) registers edge at = never_taken service node Onward 0 edge refl at
taken_where_holds service node pair place (Save op rs1 rs2 offset) registers edge at = never_taken service node Onward 0 edge refl at
taken_where_holds service node pair place (Imm op rd rs1 imm) registers edge at = never_taken service node Onward 0 edge refl at
taken_where_holds service node pair place (Reg op rd rs1 rs2) registers edge at = never_taken service node Onward 0 edge refl at
taken_where_holds service node pair place (Fence rd rs1 imm) registers edge at = never_taken service node Onward 0 edge refl at
taken_where_holds service node pair place Ecall registers edge at = never_taken service node Serving 0 edge refl at
taken_where_holds service node pair place Ebreak registers edge at = never_taken service node Breaking 0 edge refl at

-- ---- The edge of a step

-- The step goes along the edge that the window's column tells, from the node where the context stands to the one where it
-- stands then.
pub record TakesEdge (plant : PlantData) (execution : Execution) : Type 0 where
  pub at : IsAtNode plant execution.context execution.before
  pub insn : Insn
  pub fetched : insn_at plant.image execution.before.place ≡ Some insn
  pub edge : Edge ℕ
  pub leaves : slice_get (edges_at plant.flow at.number) (edge_taken plant execution) ≡ Some edge
  pub along : along_of plant execution ≡ Some (record { node = at.number; place = edge_taken plant execution; edge = edge })
  pub from_node : Edge Node
  pub is_edge : slice_get (edges_of (insn_at plant.image) at.node) (edge_taken plant execution) ≡ Some from_node
  pub kind_is : edge.kind ≡ from_node.kind
  pub taken_is : is_taken edge.kind ≡ takes_branch insn execution.before.registers
  pub next : Node
  pub target : ℕ
  pub arrives : edge.to ≡ Some target
  pub listed : slice_get plant.flow.nodes target ≡ Some next
  pub next_is : from_node.to ≡ Some next
  pub context_is : next.context ≡ at.node.context
  pub stands : StandsAt (insn_at plant.image) next execution.after
  pub found : node_of plant execution.context execution.after ≡ Some target
  pub instruction : is_service plant.flow at.number ≡ false

pub paired : (image : ImageData) (insn : Insn) (before after : Standing) → insn_at image before.place ≡ Some insn
    → IfSome (turn_at (insn_at image) before.place) (λ turn. IsPaired turn before.calls after.place)
    → IsPaired (turn_from (insn_at image) insn before) before.calls after.place
paired image insn before after fetched pairs =
    subst (λ (found : Option Insn). IfSome (option_map (turn_of (pair_at (insn_at image) before.place) before.place) found)
    (λ turn. IsPaired turn before.calls after.place)) fetched pairs

numbered : (nodes : List Node) (next : Node) (to : Option ℕ) → IsTarget nodes (Some next) to
    → (target : ℕ) × (to ≡ Some target) × (slice_get nodes target ≡ Some next)
numbered nodes next (Some target) is = (target, refl, is)
numbered nodes next None is = absurd is

pub takes_edge : (plant : PlantData) → IsPlant plant → (execution : Execution) (before after : MachineState) → IsStateOf plant.system before
    → Executes plant.image plant.system execution before after → ReturnsPaired plant.image (Execute execution)
    → AreWalking (program_in plant) plant.system before → TakesEdge plant execution
unfolding StepsFollowEdges
takes_edge plant is execution before after fits step pairs walking =
    let exists : IsContext plant.system execution.context = running_exists plant.system before execution.context fits step.running in
    let at = at_node plant is execution.context execution.before (walking.walks execution.context execution.before exists step.stands) in
    let insn : Insn = step.step.insn in
    let follows = steps_follow_edges (program_in plant) (image_fits plant.image) at.node execution.device before.memory after.memory execution.before
    execution.after at.faultless
    at.stands walking.bytes step.step (paired plant.image insn execution.before execution.after step.step.fetched pairs) in
    let number : edge_taken plant execution ≡ edge_number insn execution.before.registers =
    ap (λ (found : Option Insn). option_map_or (λ i. edge_number i execution.before.registers) found 0) step.step.fetched in
    let goes : slice_get (edges_of (insn_at plant.image) at.node) (edge_taken plant execution) ≡ Some follows.edge =
    ap (slice_get (edges_of (insn_at plant.image) at.node)) number ∙ follows.leaves in
    let leaves = leaves_there plant is at.number at.node at.listed in
    let beside = beside_first (IsEdge plant.flow.nodes) (edges_of (insn_at plant.image) at.node) leaves.leaving.edges (edge_taken plant execution) follows.edge
    leaves.are.edges_are goes in
    let edge : Edge ℕ = beside.0 in
    let to = numbered plant.flow.nodes follows.next edge.to (subst (λ (o : Option Node). IsTarget plant.flow.nodes o edge.to) follows.arrives beside.2.to_is) in
    let there : slice_get (edges_at plant.flow at.number) (edge_taken plant execution) ≡ Some edge =
    ap (λ (o : Option Leaving). slice_get (option_map_or (λ (l : Leaving). l.edges) o []) (edge_taken plant execution)) leaves.listed ∙ beside.1 in
    let turns : turn_at (insn_at plant.image) at.node.address ≡ Some (turn_of (pair_at (insn_at plant.image) at.node.address) at.node.address insn) =
    ap (option_map (turn_of (pair_at (insn_at plant.image) at.node.address) at.node.address)) (ap (insn_at plant.image) (sym at.stands.place_is)
    ∙ step.step.fetched) in
    let taken : is_taken follows.edge.kind ≡ takes_branch insn execution.before.registers =
    taken_where_holds (service_at (insn_at plant.image) at.node.address) at.node (pair_at (insn_at plant.image) at.node.address) at.node.address insn
    execution.before.registers follows.edge
    (ap (λ (found : Option Turn). slice_get (option_map_or (edges_by (service_at (insn_at plant.image) at.node.address) at.node) found [])
    (edge_number insn execution.before.registers)) (sym turns) ∙ follows.leaves) in
    let none : service_at (insn_at plant.image) at.node.address ≡ None =
    ap (service_at (insn_at plant.image)) (sym at.stands.place_is)
    ∙ executes_no_service (insn_at plant.image) insn execution.before.place execution.before.registers before.memory execution.device step.step.effect
    step.step.fetched step.step.does in
    record {
      at = at;
      insn = insn;
      fetched = step.step.fetched;
      edge = edge;
      leaves = there;
      along = ap (option_and_then (λ node. along_at plant node (edge_taken plant execution))) at.found
          ∙ ap (option_map (λ (e : Edge ℕ). record { node = at.number; place = edge_taken plant execution; edge = e })) there;
      from_node = follows.edge;
      is_edge = goes;
      kind_is = beside.2.kind_is;
      taken_is = ap is_taken beside.2.kind_is ∙ taken;
      next = follows.next;
      target = to.0;
      arrives = to.1;
      listed = to.2;
      next_is = follows.arrives;
      context_is = follows.context_is;
      stands = follows.stands;
      found = at_number plant is execution.context execution.after to.0 follows.next to.2
          (follows.context_is ∙ at.context_is) follows.stands.calls_are follows.stands.place_is;
      instruction = is_service_there plant is at.number at.node None at.listed none;
    }
