-- No step takes more cycles than its column costs.
use Rattle.std.proofs.Common.{◌≡◌, ℕ, ◌≤◌, Bool, List, Option, Some, sym, ◌∙◌, ap, subst, arith}
use Rattle.std.specs.Prelude.{IfSome, sum_by, slice_get, option_and_then, option_map, option_to_list}
use Rattle.std.specs.Option.{option_map_or}
use Rattle.rv32_decode.specs.declared.instruction.Insn.{Insn}
use Rattle.rv32_decode.specs.Instructions.{class_of}
use Rattle.rv32_machine.specs.declared.turns.ServiceAt.{ServiceAt}
use Rattle.rv32_machine.specs.Code.{insn_at}
use Rattle.osek_kernel.specs.declared.service.Service.{Service}
use Rattle.osek_kernel.specs.Services.{service_of}
use Rattle.timing_file.specs.Costs.{insn_cost, service_cost}
use Rattle.osek_machine.specs.Events.{Taking, Execution, ServiceCall, Event, Take, Execute, Serve}
use Rattle.osek_machine.specs.Declarations.{CostsAtMost, takes_branch}
use Rattle.flow_graph.specs.declared.node.Node.{Node}
use Rattle.wcet_atomic_blocks.specs.Plants.{PlantData, IsPlant}
use Rattle.scheduler_moves.specs.declared.moves.MoveLabel.TheVariants as labels
use Rattle.row_build.specs.Columns.{Column, Goes, address_of, cost, edge_cost, is_taken, kernel_cost, service_at_node}
use Rattle.shadow_runs.proofs.Behind.{AsksAt}
use Rattle.shadow_runs.proofs.Numbers.{service_there}
use Rattle.activation_windows.specs.Windows.{along_of, call_label, used_by, edge_taken}
use Rattle.activation_windows.proofs.EdgesTaken.{TakesEdge}

-- the address of the node at which something stands
address_there : (plant : PlantData) (number place : ℕ) (node : Node) → slice_get plant.flow.nodes number ≡ Some node → place ≡ node.address
    → address_of plant number ≡ place
address_there plant number place node listed same = ap (λ (n : Option Node). option_map_or (λ (m : Node). m.address) n 0) listed ∙ sym same

-- ---- Instructions

execute_costs : (plant : PlantData) (execution : Execution) → (takes : TakesEdge plant execution)
    → CostsAtMost plant.image plant.system plant.timing (Execute execution)
    → execution.cycles ≤ edge_cost plant (record { node = takes.at.number; place = edge_taken plant execution; edge = takes.edge })
execute_costs plant execution takes within =
    let there : address_of plant takes.at.number ≡ execution.before.place =
    address_there plant takes.at.number execution.before.place takes.at.node takes.at.listed takes.at.stands.place_is in
    let price = (λ (place : ℕ) (taken : Bool) (found : Option Insn).
    option_map_or (λ (insn : Insn). insn_cost plant.timing (class_of insn) taken place) found 0) in
    let same : edge_cost plant (record { node = takes.at.number; place = edge_taken plant execution; edge = takes.edge })
    ≡ insn_cost plant.timing (class_of takes.insn) (takes_branch takes.insn execution.before.registers) execution.before.place =
    ap (λ (place : ℕ). price place (is_taken takes.edge.kind) (insn_at plant.image place)) there
    ∙ (ap (price execution.before.place (is_taken takes.edge.kind)) takes.fetched
    ∙ ap (λ (taken : Bool). insn_cost plant.timing (class_of takes.insn) taken execution.before.place) takes.taken_is) in
    let bound : execution.cycles ≤ insn_cost plant.timing (class_of takes.insn) (takes_branch takes.insn execution.before.registers) execution.before.place =
    subst (λ (found : Option Insn). IfSome found
    (λ insn. execution.cycles ≤ insn_cost plant.timing (class_of insn) (takes_branch insn execution.before.registers) execution.before.place))
    takes.fetched within in
    subst (λ (n : ℕ). execution.cycles ≤ n) (sym same) bound

-- ---- Services

service_costs : (plant : PlantData) → IsPlant plant → (call : ServiceCall) → (asks : AsksAt plant call)
    → service_of asks.serves.service.number ≡ Some call.service
    → kernel_cost plant (labels.Service asks.at.number) ≡ service_cost plant.timing call.service call.before.place
service_costs plant is call asks named =
    let there : address_of plant asks.at.number ≡ call.before.place =
    address_there plant asks.at.number call.before.place asks.at.node asks.at.listed asks.at.stands.place_is in
    let found : service_at_node plant asks.at.number ≡ Some call.service =
    ap (option_and_then (λ (at : ServiceAt). service_of at.number))
    (service_there plant is asks.at.number asks.at.node (Some asks.serves.service) asks.at.listed asks.service_is) ∙ named in
    ap (λ (place : ℕ). option_map_or (λ (service : Service). service_cost plant.timing service place) (service_at_node plant asks.at.number) 0) there
    ∙ ap (λ (found : Option Service). option_map_or (λ (service : Service). service_cost plant.timing service call.before.place) found 0) found

-- ---- Columns

-- one column costs what it costs
one_costs : (plant : PlantData) (cycles : ℕ) (used : Option Column) (column : Column) → used ≡ Some column → cycles ≤ cost plant column
    → cycles ≤ sum_by (cost plant) (option_to_list used)
one_costs plant cycles used column same within =
    subst (λ (u : Option Column). cycles ≤ sum_by (cost plant) (option_to_list u)) (sym same) (omega arith)

pub execute_covers : (plant : PlantData) (mode : ℕ) (execution : Execution) (earlier : List Event) → TakesEdge plant execution
    → CostsAtMost plant.image plant.system plant.timing (Execute execution)
    → execution.cycles ≤ sum_by (cost plant) (option_to_list (used_by plant mode (Execute execution) earlier))
execute_covers plant mode execution earlier takes within =
    one_costs plant execution.cycles (option_map Goes (along_of plant execution)) _ (ap (option_map Goes) takes.along)
    (execute_costs plant execution takes within)

-- what a move costs, as a step and as a start
pub take_covers : (plant : PlantData) (taking : Taking) → CostsAtMost plant.image plant.system plant.timing (Take taking)
    → taking.cycles ≤ kernel_cost plant (labels.Take taking.source)
take_covers plant taking within = within

pub serve_covers : (plant : PlantData) → IsPlant plant → (call : ServiceCall) → (asks : AsksAt plant call)
    → service_of asks.serves.service.number ≡ Some call.service
    → CostsAtMost plant.image plant.system plant.timing (Serve call)
    → (call_label plant call ≡ Some (labels.Service asks.at.number)) × (call.cycles ≤ kernel_cost plant (labels.Service asks.at.number))
serve_covers plant is call asks named within =
    (ap (option_map labels.Service) asks.at.found, subst (λ (n : ℕ). call.cycles ≤ n) (sym (service_costs plant is call asks named)) within)
