-- What holds at nodes of a program without a fault, and that a context walks along the graph.
use Rattle.std.proofs.Common.{◌≡◌, ℕ, ◌⊎◌, inl, inr, Bool, true, false, cond, not, List, [], ◌∷◌, length, Option, Some, None, arith, refl, sym, ◌∙◌, ap, subst}
use Rattle.std.specs.Prelude.{◌&&◌, ◌==◌, nat_eq, slice_get, Contains}
use Rattle.std.specs.Option.{option_map, option_map_or}
use Rattle.std.proofs.lemmas.Bool.{eqb-true}
use Rattle.std.proofs.lemmas.Bool.Decides.{nat_tests}
use Rattle.std.proofs.lemmas.Option.{none-some}
use Rattle.rv32_decode.specs.declared.instruction.Insn.{Insn}
use Rattle.rv32_decode.specs.declared.instruction.Insn.TheVariants.{Lui, Auipc, Jal, Jalr, Branch, Load, Save, Imm, Reg, Fence, Ecall, Ebreak}
use Rattle.rv32_machine.specs.declared.turns.ServiceAt.{ServiceAt}
use Rattle.rv32_machine.specs.declared.turns.Turn.{Turn}
use Rattle.rv32_machine.specs.declared.turns.Turn.TheVariants.{Serving}
use Rattle.rv32_machine.specs.ContextStep.{Standing}
use Rattle.rv32_machine.specs.Code.{CodeFits}
use Rattle.rv32_machine.specs.Execution.{following}
use Rattle.rv32_machine.specs.Places.{service_at, pair_at, is_middle, turn_of, turn_at}
use Rattle.rv32_machine.proofs.StepLaws.{step_keeps_bytes}
use Rattle.flow_graph.specs.declared.edge.Edge.{Edge}
use Rattle.flow_graph.specs.declared.flow.Flow.{Flow}
use Rattle.flow_graph.specs.declared.node.Node.{Node}
use Rattle.flow_graph.specs.Judging.{IsGraph}
use Rattle.flow_graph.specs.Graph.{Program, ends_by, next_node, edges_by, edges_of, service_edge}
use Rattle.flow_graph.specs.Faults.{entry_at, is_entry, is_breaking, is_served, fault_of, entry, along}
use Rattle.flow_graph.specs.Standing.{PlaceFacts, StandsAt, StepsFollowEdges}
use Rattle.flow_graph.specs.Walks.{IsFaultless, Serves, EcallsServe, Executes, NoneIsStuck, standing_at, EntriesStand, ServicesGoOn, StepsKeepBytes, Moves, steps, served, Walk, begins, goes_on, IsOnGraph, WalksStayOnGraph}
use Rattle.flow_graph.proofs.Places.{following_below}
use Rattle.flow_graph.proofs.Sound.{HasTurn, has_turn, sound, IsSound, not_middle}
use Rattle.flow_graph.proofs.Law.{nothing_known, steps_follow_edges}

-- ---- At an ECALL

-- the turn at an address by the instruction there
turn_there : (code : ℕ → Option Insn) (address : ℕ) (insn : Insn) → code address ≡ Some insn
    → turn_at code address ≡ Some (turn_of (pair_at code address) address insn)
turn_there code address insn at = ap (option_map (turn_of (pair_at code address) address)) at

some_service : (program : Program) (place : ℕ) (regs : List ℕ) (found : Option ServiceAt) → service_at program.code place ≡ found
    → not (option_map_or (is_served program.system) found false) ≡ false → PlaceFacts program.code place regs → Serves program place regs
some_service program place regs None at h known = absurd cc
some_service program place regs (Some service) at h known =
    let facts = known.third service at in
    record { service = service; stands = at; served = not_not (is_served program.system service) h; number_is = facts.1; argument_is = facts.0 }
  where
    not_not : (b : Bool) → not b ≡ false → b ≡ true
    not_not true h = refl
    not_not false h = absurd cc

-- a node without a fault at which an ECALL stands
pub ecall_serves : (program : Program) (node : Node) (regs : List ℕ) → fault_of program node ≡ None → program.code node.address ≡ Some Ecall
    → PlaceFacts program.code node.address regs → Serves program node.address regs
ecall_serves program node regs none at known =
    let clear : IsSound program node Serving = sound program node Serving (turn_there program.code node.address Ecall at) none in
    some_service program node.address regs (service_at program.code node.address) refl clear.served known

pub ecalls_serve : (program : Program) → EcallsServe program
unfolding EcallsServe
ecalls_serve program node standing none stands at =
    let here : program.code node.address ≡ Some Ecall = subst (λ (a : ℕ). program.code a ≡ Some Ecall) stands.place_is at in
    let known : PlaceFacts program.code node.address standing.registers =
    subst (λ (a : ℕ). PlaceFacts program.code a standing.registers) stands.place_is stands.facts in
    subst (λ (a : ℕ). Serves program a standing.registers) (sym stands.place_is) (ecall_serves program node standing.registers none here known)

-- ---- No node is stuck

executes : (program : Program) (node : Node) (insn : Insn) → program.code node.address ≡ Some insn
    → is_breaking (turn_of (pair_at program.code node.address) node.address insn) ≡ false → (program.code node.address ≡ Some Ecall)
    ⊎ Executes program node.address
executes program node Ecall at h = inl at
executes program node Ebreak at h = absurd cc
executes program node (Lui rd imm) at h = inr (record { insn = Lui rd imm; fetched = at; executable = tt })
executes program node (Auipc rd imm) at h = inr (record { insn = Auipc rd imm; fetched = at; executable = tt })
executes program node (Jal rd offset) at h = inr (record { insn = Jal rd offset; fetched = at; executable = tt })
executes program node (Jalr rd rs1 offset) at h = inr (record { insn = Jalr rd rs1 offset; fetched = at; executable = tt })
executes program node (Branch op rs1 rs2 offset) at h = inr (record { insn = Branch op rs1 rs2 offset; fetched = at; executable = tt })
executes program node (Load op rd rs1 offset) at h = inr (record { insn = Load op rd rs1 offset; fetched = at; executable = tt })
executes program node (Save op rs1 rs2 offset) at h = inr (record { insn = Save op rs1 rs2 offset; fetched = at; executable = tt })
executes program node (Imm op rd rs1 imm) at h = inr (record { insn = Imm op rd rs1 imm; fetched = at; executable = tt })
executes program node (Reg op rd rs1 rs2) at h = inr (record { insn = Reg op rd rs1 rs2; fetched = at; executable = tt })
executes program node (Fence rd rs1 imm) at h = inr (record { insn = Fence rd rs1 imm; fetched = at; executable = tt })

-- the instruction there, where there is a turn
executes_any : (program : Program) (node : Node) (found : Option Insn) → program.code node.address ≡ found → fault_of program node ≡ None
    → (turn : Turn) → option_map (turn_of (pair_at program.code node.address) node.address) found ≡ Some turn
    → (program.code node.address ≡ Some Ecall) ⊎ Executes program node.address
executes_any program node None at none turn h = absurd (none-some turn h)
executes_any program node (Some insn) at none turn h =
    executes program node insn at (sound program node (turn_of (pair_at program.code node.address) node.address insn)
    (turn_there program.code node.address insn at) none).no_break

pub none_is_stuck : (program : Program) → NoneIsStuck program
unfolding NoneIsStuck
none_is_stuck program node none =
    let has : HasTurn program node = has_turn program node none in
    executes_any program node (program.code node.address) refl none has.turn has.at

-- ---- Memory

pub steps_keep_bytes : (code : ℕ → Option Insn) → CodeFits code → StepsKeepBytes code
unfolding StepsKeepBytes
steps_keep_bytes code decoded device memory memory' before after fits bytes step =
    step_keeps_bytes code device memory memory' before after decoded fits bytes step

-- ---- Entries

-- an entry that is no middle word
entry_known : (program : Program) (node : Node) (regs : List ℕ) → is_entry program node ≡ true
    → (is_entry program node && is_middle program.code node.address) ≡ false
    → PlaceFacts program.code node.address regs
entry_known program node regs is h = nothing_known program.code node.address regs (second (is_entry program node) (is_middle program.code node.address) is h)
  where
    second : (a b : Bool) → a ≡ true → (a && b) ≡ false → b ≡ false
    second true b is h = h
    second false b is h = absurd cc

no_sites : (sites : List ℕ) → (length sites == 0) ≡ true → sites ≡ []
no_sites [] h = refl
no_sites (site ∷ sites) h = absurd (omega (arith, eqb-true (length (site ∷ sites)) 0 h))

pub entries_stand : (program : Program) → EntriesStand program
unfolding EntriesStand
entries_stand program node regs is none are fits =
    let has : HasTurn program node = has_turn program node none in
    record {
      fits = record { registers_fit = are; place_fits = fits };
      place_is = refl;
      calls_are = sym (no_sites node.sites (first (length node.sites == 0) _ is));
      facts = entry_known program node regs is has.sound.entry;
    }
  where
    first : (a b : Bool) → (a && b) ≡ true → a ≡ true
    first true b h = refl
    first false b h = absurd cc

-- ---- Behind a service

-- the edge of a service that its caller returns from
service_edges : (program : Program) (node : Node) (service : ServiceAt) → service_at program.code node.address ≡ Some service
    → program.code node.address ≡ Some Ecall → edges_of program.code node ≡ service_edge node service ∷ []
service_edges program node service at ecall =
    ap (λ (found : Option Turn). option_map_or (edges_by (service_at program.code node.address) node) found [])
    (turn_there program.code node.address Ecall ecall)
    ∙ ap (λ (found : Option ServiceAt). edges_by found node Serving) at

returned_edge : (node : Node) (service : ServiceAt) → ends_by service.number ≡ false → (service_edge node service).to ≡ Some (next_node node)
returned_edge node service h = ap (λ b. cond b None (Some (next_node node))) h

pub services_go_on : (program : Program) → ServicesGoOn program
unfolding ServicesGoOn
services_go_on program node service regs none ecall at h are =
    let clear : IsSound program node Serving = sound program node Serving (turn_there program.code node.address Ecall ecall) none in
    let edges : edges_of program.code node ≡ service_edge node service ∷ [] = service_edges program node service at ecall in
    let own : edges_by (service_at program.code node.address) node Serving ≡ service_edge node service ∷ [] =
    ap (λ (found : Option ServiceAt). edges_by found node Serving) at in
    let middle : is_middle program.code (following node.address) ≡ false =
    not_middle program (edges_by (service_at program.code node.address) node Serving) 0 (service_edge node service) (next_node node) clear.middle
    (ap (λ (edges : List (Edge Node)). slice_get edges 0) own) (returned_edge node service h) in
    record {
      only = ap length edges;
      leads = record {
        faultless = none;
        number = 0;
        edge = service_edge node service;
        leaves = ap (λ (edges : List (Edge Node)). slice_get edges 0) edges;
        arrives = returned_edge node service h;
      };
      stands = record {
        fits = record { registers_fit = are; place_fits = following_below node.address };
        place_is = refl;
        calls_are = refl;
        facts = nothing_known program.code (following node.address) regs middle;
      };
    }

-- ---- Walks

moves_on : (program : Program) → IsFaultless program → CodeFits program.code → (context : ℕ) (before after : Standing) → Moves program before after
    → IsOnGraph program context before → IsOnGraph program context after
unfolding StepsFollowEdges ServicesGoOn
moves_on program faultless decoded context before after (steps device memory memory' _ _ bytes step paired) on =
    let none : fault_of program on.node ≡ None = faultless.none on.node on.reached in
    let follows = steps_follow_edges program decoded on.node device memory memory' before after none on.stands bytes step paired in
    record {
      node = follows.next;
      reached = along on.node follows.next on.reached (record {
        faultless = none;
        number = _;
        edge = follows.edge;
        leaves = follows.leaves;
        arrives = follows.arrives;
      });
      context_is = follows.context_is ∙ on.context_is;
      stands = follows.stands;
    }
moves_on program faultless decoded context before after (served _ regs ecall h are) on =
    let none : fault_of program on.node ≡ None = faultless.none on.node on.reached in
    let here : program.code on.node.address ≡ Some Ecall = subst (λ (a : ℕ). program.code a ≡ Some Ecall) on.stands.place_is ecall in
    let known : PlaceFacts program.code on.node.address before.registers =
    subst (λ (a : ℕ). PlaceFacts program.code a before.registers) on.stands.place_is on.stands.facts in
    let serves = ecall_serves program on.node before.registers none here known in
    let next = services_go_on program on.node serves.service regs none here serves.stands (ap ends_by (sym serves.number_is) ∙ h) are in
    let same : standing_at regs (following on.node.address) on.node.sites ≡ standing_at regs (following before.place) before.calls =
    ap (λ (a : ℕ). standing_at regs (following a) on.node.sites) (sym on.stands.place_is)
    ∙ ap (standing_at regs (following before.place)) (sym on.stands.calls_are) in
    record {
      node = next_node on.node;
      reached = along on.node (next_node on.node) on.reached next.leads;
      context_is = on.context_is;
      stands = subst (StandsAt program.code (next_node on.node)) same next.stands;
    }

-- the entry's node is one
entry_is : (program : Program) (context place : ℕ) → entry_at program context ≡ Some place
    → is_entry program (record { context = context; sites = []; address = place }) ≡ true
entry_is program context place at = ap (λ (found : Option ℕ). option_map_or (nat_eq place) found false) at ∙ same place
  where
    same : (n : ℕ) → nat_eq n n ≡ true
    same n = grind (arith, nat_tests)

on_graph : (program : Program) → IsFaultless program → CodeFits program.code → (context : ℕ) (standing : Standing) → Walk program context standing
    → IsOnGraph program context standing
unfolding EntriesStand
on_graph program faultless decoded context standing (begins regs place are fits at) =
    let node : Node = record { context = context; sites = []; address = place } in
    let is : is_entry program node ≡ true = entry_is program context place at in
    record {
      node = node;
      reached = entry node is;
      context_is = refl;
      stands = entries_stand program node regs is (faultless.none node (entry node is)) are fits;
    }
on_graph program faultless decoded context standing (goes_on before after walk move) =
    moves_on program faultless decoded context before after move (on_graph program faultless decoded context before walk)

pub walks_stay_on_graph : (program : Program) → IsFaultless program → CodeFits program.code → WalksStayOnGraph program
unfolding WalksStayOnGraph
walks_stay_on_graph program faultless decoded = on_graph program faultless decoded

-- ---- Graphs

pub graph_is_faultless : (program : Program) (flow : Flow) → IsGraph program flow → IsFaultless program
graph_is_faultless program flow is = record { none = λ node reached. at_place node (is.nodes.all node reached) }
  where
    at_place : (node : Node) → Contains flow.nodes node → fault_of program node ≡ None
    at_place node there = subst (λ (n : Node). fault_of program n ≡ None) there.2 (is.faultless there.0 node there.1)
