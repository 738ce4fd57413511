-- Contexts walk along the graph.
use Rattle.std.proofs.Common.{◌≡◌, ℕ, ◌^◌, ◌<◌, ◌⊎◌, inl, inr, true, false, List, [], ◌∷◌, length, Option, Some, None, refl, sym, ◌∙◌, ap, subst, arith}
use Rattle.std.specs.Prelude.{IfSome, option_map, nat_eq, not}
use Rattle.std.specs.Option.{option_map_or}
use Rattle.std.proofs.lemmas.Bool.Decides.{nat_tests}
use Rattle.std.proofs.lemmas.Option.{none-some, same_Some}
use Rattle.elf_image.specs.Image.{ImageData}
use Rattle.oil_model.specs.declared.system.System.{System}
use Rattle.timing_file.specs.declared.timing.Timing.{Timing}
use Rattle.rv32_decode.specs.declared.instruction.Insn.{Insn}
use Rattle.rv32_decode.specs.declared.instruction.Insn.TheVariants.{Lui, Auipc, Jal, Jalr, Branch, Load, Save, Imm, Reg, Fence, Ecall, Ebreak}
use Rattle.rv32_machine.specs.Code.{insn_at}
use Rattle.rv32_machine.specs.ContextStep.{Standing, IsPaired, turn_from}
use Rattle.rv32_machine.specs.Memory.{BytesFit}
use Rattle.rv32_machine.specs.Places.{pair_at, turn_of, turn_at}
use Rattle.rv32_machine.specs.declared.turns.ServiceAt.{ServiceAt}
use Rattle.rv32_machine.specs.Steps.{IsExecutable}
use Rattle.rv32_machine.specs.Registers.{AreRegisters, value_of}
use Rattle.rv32_machine.proofs.ExecutionLaws.{with_value_keeps}
use Rattle.rv32_machine.proofs.StepLaws.{image_fits, initial_fits, step_keeps_bytes}
use Rattle.osek_kernel.specs.declared.context.Context.{Context}
use Rattle.osek_kernel.specs.declared.context.Context.TheVariants as contexts
use Rattle.osek_kernel.specs.declared.kernel.Kernel.{Kernel}
use Rattle.osek_kernel.specs.declared.kernel.Reply.{Reply}
use Rattle.osek_kernel.specs.declared.service.Code.{Code}
use Rattle.osek_kernel.specs.declared.service.Code.TheVariants.{Done, Access, CallLevel, Limit, NoFunction, Resource, State}
use Rattle.osek_kernel.specs.Contexts.{IsContext, place_of, entry_of}
use Rattle.osek_kernel.specs.Services.{takes, service_of, code_number}
use Rattle.osek_kernel.specs.Sources.{source_count}
use Rattle.osek_kernel.specs.Served
use Rattle.osek_machine.specs.State.{MachineState, standing_of, at_entry}
use Rattle.osek_machine.specs.State as state
use Rattle.osek_machine.specs.Events.{Taking, Execution, ServiceCall, Arrive, Take, Execute, Serve, Idle}
use Rattle.osek_machine.specs.Steps.{Takes, Executes, Serves, taken_by, served_by, number_in, argument_in, gone_on}
use Rattle.osek_machine.specs.Room.{IsStateOf}
use Rattle.osek_machine.specs.Declarations.{ReturnsPaired}
use Rattle.osek_machine.specs.Stuck.{is_stuck_at, is_stuck}
use Rattle.osek_machine.proofs.Kept.{taken_exists, served_exists, running_exists, pending_within}
use Rattle.osek_machine.proofs.Times.{runs_keep_room}
use Rattle.flow_graph.specs.declared.node.Node.{Node}
use Rattle.flow_graph.specs.Graph.{Program, program_of}
use Rattle.flow_graph.specs.Faults.{entry_at, is_served, fault_of, entry}
use Rattle.flow_graph.specs.Standing.{StandsAt}
use Rattle.flow_graph.specs.Walks as graph
use Rattle.flow_graph.specs.Walks.{EcallsServe, NoneIsStuck, Walk, begins, goes_on, steps, served, IsOnGraph, WalksStayOnGraph}
use Rattle.flow_graph.proofs.WalkLaws.{walks_stay_on_graph, none_is_stuck, ecalls_serve}
use Rattle.graph_runs.specs.Walking.{AreWalking, HaveGraph, StartsWalk, StepsWalkOn, RunsWalk, WalkersAreNotStuck}
use Rattle.graph_runs.proofs.Positions.{after_placed, after_started, after_answered}
use Rattle.graph_runs.proofs.Entries.{entry_is, node_below}
use Rattle.graph_runs.proofs.Ending as ending

-- ---- A context that begins

same_number : (n : ℕ) → nat_eq n n ≡ true
same_number n = grind (arith, nat_tests)

-- a context that stands at its entry, with any registers, walks
begun : (image : ImageData) (system : System) (timing : Timing) (c : Context) (registers : List ℕ) (place : ℕ) → HaveGraph image system timing → IsContext system c
    → AreRegisters registers → entry_of image system c ≡ Some place
    → Walk (program_of image system timing) (place_of system c) (state.standing_at registers place)
begun image system timing c registers place have is are at =
    let program : Program = program_of image system timing in
    let there : entry_at program (place_of system c) ≡ Some place = entry_is image system timing c is ∙ at in
    let node : Node = record { context = place_of system c; sites = []; address = place } in
    let reached = entry node (ap (λ (found : Option ℕ). option_map_or (nat_eq place) found false) there ∙ same_number place) in
    let below : place < 2 ^ 32 = node_below image system timing node have.image_lawful (have.faultless.none node reached) in
    begins registers place are below there

begun_at : (image : ImageData) (system : System) (timing : Timing) (c : Context) (registers : List ℕ) (standing : Standing) (found : Option ℕ)
    → HaveGraph image system timing → IsContext system c → AreRegisters registers
    → entry_of image system c ≡ found → option_map (state.standing_at registers) found ≡ Some standing
    → Walk (program_of image system timing) (place_of system c) standing
begun_at image system timing c registers standing None have is are at e = absurd (none-some standing e)
begun_at image system timing c registers standing (Some place) have is are at e =
    subst (Walk (program_of image system timing) (place_of system c)) (same_Some (state.standing_at registers place) standing e) (begun image system timing c registers place have is are at)

-- ---- A context that walks

stands_on : (image : ImageData) (system : System) (timing : Timing) → HaveGraph image system timing → (place : ℕ) (standing : Standing)
    → Walk (program_of image system timing) place standing → IsOnGraph (program_of image system timing) place standing
unfolding WalksStayOnGraph
stands_on image system timing have place standing walk =
    walks_stay_on_graph (program_of image system timing) have.faultless (image_fits image) place standing walk

on_registers : (image : ImageData) (system : System) (timing : Timing) → HaveGraph image system timing → (place : ℕ) (standing : Standing)
    → Walk (program_of image system timing) place standing → AreRegisters standing.registers
on_registers image system timing have place standing walk = (stands_on image system timing have place standing walk).stands.fits.registers_fit

code_fits : (code : Code) → code_number code < 2 ^ 32
code_fits Done = omega arith
code_fits Access = omega arith
code_fits CallLevel = omega arith
code_fits Limit = omega arith
code_fits NoFunction = omega arith
code_fits Resource = omega arith
code_fits State = omega arith

activated : (system : System) (k : Kernel) (call : ServiceCall) → takes system call.service (argument_in call.before) ≡ true
    → (d : Context) → option_map contexts.Task (Served.served system k call.caller call.service (argument_in call.before)).reply.activated ≡ Some d → IsContext system d
activated system k call has d e = at (Served.served system k call.caller call.service (argument_in call.before)).reply.activated (served_exists system k call.caller call.service (argument_in call.before) has) e
  where
    at : (o : Option ℕ) → ((t : ℕ) → o ≡ Some t → t < length system.tasks) → option_map contexts.Task o ≡ Some d → IsContext system d
    at None exist h = absurd (none-some d h)
    at (Some t) exist h = subst (IsContext system) (same_Some (contexts.Task t) d h) (exist t refl)

-- ---- The start

no_calls : (standing : Standing) → standing.calls ≡ [] → state.standing_at standing.registers standing.place ≡ standing
no_calls standing none = ap (λ calls. record standing { calls = calls }) (sym none)

pub starts_walk : StartsWalk
starts_walk image system timing mode begin have initial = record {
  bytes = subst BytesFit (sym initial.memory) (record { fits = initial_fits image.memory have.image_lawful.segments });
  walks = λ c standing is at. (
      let stands = initial.entries c standing is at in
      subst (Walk (program_of image system timing) (place_of system c)) (no_calls standing stands.calls)
      (begun image system timing c standing.registers standing.place have is stands.registers stands.place));
}

-- ---- Steps

take_walks : (image : ImageData) (system : System) (timing : Timing) (taking : Taking) (before after : MachineState) → HaveGraph image system timing → IsStateOf system before
    → Takes image system taking before after → AreWalking (program_of image system timing) system before → AreWalking (program_of image system timing) system after
take_walks image system timing taking before after have fits step walking =
    let done = taken_by system taking.source before in
    let within : taking.source < source_count system = (let w = pending_within before.pending taking.source step.pending in let same : length before.pending ≡ source_count system = fits.pending in omega arith) in
    subst (AreWalking (program_of image system timing) system) (sym step.becomes) (record {
      bytes = walking.bytes;
      walks = λ c standing is at. elim (after_started system (at_entry image system taking.registers) done.started c standing before.standings
          (taken_exists system before.kernel have.system_lawful taking.source within) is fits.positions.count at) [
            | inl new ↦ begun_at image system timing c taking.registers standing (entry_of image system c) have is step.registers refl new
            | inr stood ↦ walking.walks c standing is stood
          ];
    })

paired : (image : ImageData) (insn : Insn) (before after : Standing) → insn_at image before.place ≡ Some insn
    → IfSome (turn_at (insn_at image) before.place) (λ turn. IsPaired turn before.calls after.place)
    → IsPaired (turn_from (insn_at image) insn before) before.calls after.place
paired image insn before after fetched pairs =
    subst (λ (found : Option Insn). IfSome (option_map (turn_of (pair_at (insn_at image) before.place) before.place) found) (λ turn. IsPaired turn before.calls after.place)) fetched pairs

execute_walks : (image : ImageData) (system : System) (timing : Timing) (execution : Execution) (before after : MachineState) → HaveGraph image system timing → IsStateOf system before
    → Executes image system execution before after → ReturnsPaired image (Execute execution)
    → AreWalking (program_of image system timing) system before → AreWalking (program_of image system timing) system after
execute_walks image system timing execution before after have fits step pairs walking =
    let is : IsContext system execution.context = running_exists system before execution.context fits step.running in
    let walked = walking.walks execution.context execution.before is step.stands in
    let walk : Walk (program_of image system timing) (place_of system execution.context) execution.after =
    goes_on execution.before execution.after walked (steps execution.device before.memory after.memory execution.before execution.after walking.bytes step.step
    (paired image step.step.insn execution.before execution.after step.step.fetched pairs)) in
    let bytes : BytesFit after.memory = step_keeps_bytes (insn_at image) execution.device before.memory after.memory execution.before execution.after (image_fits image)
    (on_registers image system timing have (place_of system execution.context) execution.before walked) walking.bytes step.step in
    subst (AreWalking (program_of image system timing) system) (sym step.becomes) (record {
      bytes = bytes;
      walks = λ c standing there at. elim (after_placed system execution.context c (Some execution.after) standing before.standings is there fits.positions.count at) [
        | inl here ↦ subst (λ (d : Context). Walk (program_of image system timing) (place_of system d) standing) (sym here.0)
            (subst (Walk (program_of image system timing) (place_of system execution.context)) (same_Some execution.after standing here.1) walk)
        | inr stood ↦ walking.walks c standing there stood
      ];
    })

serve_walks : (image : ImageData) (system : System) (timing : Timing) (call : ServiceCall) (before after : MachineState) → HaveGraph image system timing → IsStateOf system before
    → Serves image system call before after → call.reply.misuse ≡ false
    → AreWalking (program_of image system timing) system before → AreWalking (program_of image system timing) system after
serve_walks image system timing call before after have fits step clean walking =
    let done = served_by system call before in
    let next = gone_on done.reply.code call.before in
    let is : IsContext system call.caller = running_exists system before call.caller fits step.running in
    let walked = walking.walks call.caller call.before is step.stands in
    let registers : AreRegisters next.registers = with_value_keeps call.before.registers 10 (code_number done.reply.code)
    (on_registers image system timing have (place_of system call.caller) call.before walked) (omega arith) (code_fits done.reply.code) in
    let on : done.reply.ended ≡ None → Walk (program_of image system timing) (place_of system call.caller) next =
    λ stays. goes_on call.before next walked (served call.before next.registers step.fetched
    (ending.goes_on system before.kernel call.caller call.service (number_in call.before) (argument_in call.before) step.service (ap (λ (r : Reply). r.misuse) (sym step.replied) ∙ clean) stays) registers) in
    subst (AreWalking (program_of image system timing) system) (sym step.becomes) (record {
      bytes = walking.bytes;
      walks = λ c standing there at. elim (after_answered system (at_entry image system call.registers) call.caller next done.reply c standing before.standings
          (activated system before.kernel call step.argument) is there fits.positions.count at) [
            | inl new ↦ begun_at image system timing c call.registers standing (entry_of image system c) have there step.registers refl new
            | inr (inl here) ↦ subst (λ (d : Context). Walk (program_of image system timing) (place_of system d) standing) (sym here.0)
                (subst (Walk (program_of image system timing) (place_of system call.caller)) here.2 (on here.1))
            | inr (inr stood) ↦ walking.walks c standing there stood
          ];
    })

pub steps_walk_on : StepsWalkOn
steps_walk_on image system timing (Arrive arrival) before after have fits step pairs clean walking =
    subst (AreWalking (program_of image system timing) system) (sym step.becomes) (record { bytes = walking.bytes; walks = walking.walks })
steps_walk_on image system timing (Take taking) before after have fits step pairs clean walking = take_walks image system timing taking before after have fits step walking
steps_walk_on image system timing (Execute execution) before after have fits step pairs clean walking = execute_walks image system timing execution before after have fits step pairs walking
steps_walk_on image system timing (Serve call) before after have fits step pairs clean walking = serve_walks image system timing call before after have fits step clean walking
steps_walk_on image system timing (Idle cycles) before after have fits step pairs clean walking =
    subst (AreWalking (program_of image system timing) system) (sym step.becomes) (record { bytes = walking.bytes; walks = walking.walks })

-- ---- Runs

pub runs_walk : RunsWalk
runs_walk image system timing mode [] state have run pairs clean = starts_walk image system timing mode state have run
runs_walk image system timing mode (event ∷ earlier) state have run pairs clean =
    steps_walk_on image system timing event run.0 state have (runs_keep_room image system mode earlier run.0 have.system_lawful have.entries run.1) run.2 pairs.0 clean.0
    (runs_walk image system timing mode earlier run.0 have run.1 pairs.1 clean.1)

-- ---- No context is stuck

executable_moves : (system : System) (standing : Standing) (insn : Insn) → IsExecutable insn → is_stuck_at system standing (Some insn) ≡ false
executable_moves system standing (Lui rd imm) is = refl
executable_moves system standing (Auipc rd imm) is = refl
executable_moves system standing (Jal rd offset) is = refl
executable_moves system standing (Jalr rd rs1 offset) is = refl
executable_moves system standing (Branch op rs1 rs2 offset) is = refl
executable_moves system standing (Load op rd rs1 offset) is = refl
executable_moves system standing (Save op rs1 rs2 offset) is = refl
executable_moves system standing (Imm op rd rs1 imm) is = refl
executable_moves system standing (Reg op rd rs1 rs2) is = refl
executable_moves system standing (Fence rd rs1 imm) is = refl
executable_moves system standing Ecall is = absurd is
executable_moves system standing Ebreak is = absurd is

-- who asks for a service of the table is served
asks : (system : System) (standing : Standing) (service : ServiceAt) → is_served system service ≡ true
    → value_of standing.registers 17 ≡ service.number → value_of standing.registers 10 ≡ service.argument → is_stuck_at system standing (Some Ecall) ≡ false
asks system standing service known number argument = ap not
    (ap (λ (n : ℕ). option_map_or (λ found. takes system found (value_of standing.registers 10)) (service_of n) false) number
    ∙ (ap (λ (n : ℕ). option_map_or (λ found. takes system found n) (service_of service.number) false) argument ∙ known))

moves : (image : ImageData) (system : System) (timing : Timing) (standing : Standing) (node : Node) → fault_of (program_of image system timing) node ≡ None
    → StandsAt (insn_at image) node standing → (insn_at image node.address ≡ Some Ecall) ⊎ graph.Executes (program_of image system timing) node.address
    → is_stuck image system standing ≡ false
unfolding EcallsServe
moves image system timing standing node none stands (inl ecall) =
    let here : insn_at image standing.place ≡ Some Ecall = subst (λ (a : ℕ). insn_at image a ≡ Some Ecall) (sym stands.place_is) ecall in
    let serves = ecalls_serve (program_of image system timing) node standing none stands here in
    ap (is_stuck_at system standing) here ∙ asks system standing serves.service serves.served serves.number_is serves.argument_is
moves image system timing standing node none stands (inr executes) =
    let here : insn_at image standing.place ≡ Some executes.insn = subst (λ (a : ℕ). insn_at image a ≡ Some executes.insn) (sym stands.place_is) executes.fetched in
    ap (is_stuck_at system standing) here ∙ executable_moves system standing executes.insn executes.executable

pub walkers_are_not_stuck : WalkersAreNotStuck
unfolding NoneIsStuck
walkers_are_not_stuck image system timing context address now have fits walking stuck =
    let is : IsContext system context = running_exists system now context fits stuck.running in
    let on = stands_on image system timing have (place_of system context) stuck.standing (walking.walks context stuck.standing is stuck.stands) in
    let none = have.faultless.none on.node on.reached in
    absurd (cc (stuck.stuck, moves image system timing stuck.standing on.node none on.stands (none_is_stuck (program_of image system timing) on.node none)))
