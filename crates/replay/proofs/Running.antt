-- A step of the running context, in the run that is played.
use Rattle.std.proofs.Common.{◌≡◌, ℕ, ◌+◌, ◌<◌, ◌≤◌, Bool, true, false, List, ◌∷◌, length, Option, Some, None, Ok, Err, refl, sym, ◌∙◌, ap, subst, arith, get_or}
use Rattle.std.specs.Prelude.{IfSome, Result, slice_index}
use Rattle.std.proofs.lemmas.Bool.{leb-false}
use Rattle.std.proofs.lemmas.Option.{none-some}
use Rattle.listed.specs.declared.fault.Fault.{Fault}
use Rattle.listed.specs.declared.fault.Fault.TheVariants.{Kind, Memory}
use Rattle.elf_image.specs.Image.{ImageData}
use Rattle.oil_model.specs.declared.system.System.{System}
use Rattle.rv32_decode.specs.declared.instruction.Insn.{Insn}
use Rattle.rv32_decode.specs.declared.instruction.Insn.TheVariants.{Lui, Auipc, Jal, Jalr, Branch, Load, Save, Imm, Reg, Fence, Ecall, Ebreak}
use Rattle.rv32_decode.specs.declared.instruction.Class.{Class}
use Rattle.rv32_decode.specs.declared.instruction.Class.TheVariants as classes
use Rattle.rv32_decode.specs.declared.instruction.RegOp.{RegOp}
use Rattle.rv32_decode.specs.declared.instruction.RegOp.TheVariants as reg
use Rattle.rv32_decode.specs.Instructions.{class_of, reg_class}
use Rattle.rv32_machine.specs.declared.turns.Turn.TheVariants.{Calling}
use Rattle.rv32_machine.specs.Code.{insn_at}
use Rattle.rv32_machine.specs.ContextStep.{Standing}
use Rattle.rv32_machine.specs.Execution.{executed, Effect}
use Rattle.rv32_machine.specs.Places.{turn_at}
use Rattle.rv32_machine.proofs.StepLaws.{image_fits}
use Rattle.timing_file.specs.declared.timing.Timing.{Timing}
use Rattle.timing_file.specs.Costs.{cost_of_class, cost_of_service, extra_at, insn_cost, place_of_service, service_cost}
use Rattle.timing_file.specs.Lawful as timings
use Rattle.timing_file.specs.Lawful.{IsCost, AreCosts}
use Rattle.osek_kernel.specs.declared.context.Context.{Context}
use Rattle.osek_kernel.specs.declared.service.Service.{Service}
use Rattle.osek_kernel.specs.declared.service.Service.TheVariants as services
use Rattle.osek_kernel.specs.Contexts.{IsContext, place_of}
use Rattle.osek_kernel.specs.declared.kernel.Reply.{Reply}
use Rattle.osek_kernel.specs.Laws.{ServesActive}
use Rattle.osek_kernel.specs.Running.{runs}
use Rattle.osek_kernel.proofs.Serves.{services_keep_active}
use Rattle.osek_kernel.proofs.Theorems.{the_first_runs}
use Rattle.osek_machine.specs.Events.{Event, Arrive, Take, Execute, Serve, Idle, Execution, ServiceCall, cycles_of, ended_by}
use Rattle.osek_machine.specs.State.{MachineState}
use Rattle.osek_machine.specs.Steps.{Step, argument_in, served_by}
use Rattle.osek_machine.specs.Room.{IsStateOf}
use Rattle.osek_machine.specs.Declarations.{ArrivesInTime, CostsAtMost, arrivals_of, takes_branch}
use Rattle.osek_machine.specs.Laws.{Passes}
use Rattle.osek_machine.specs.Machine.{state_of}
use Rattle.osek_machine.specs.Runs.{IsRun}
use Rattle.osek_machine.specs.Stuck.{is_stuck_at}
use Rattle.osek_machine.proofs.Kept.{running_exists}
use Rattle.osek_machine.proofs.Times.{steps_take_their_time}
use Rattle.flow_graph.specs.Graph.{program_of}
use Rattle.flow_graph.specs.Walks.{IsOnGraph, Walk, WalksStayOnGraph}
use Rattle.flow_graph.proofs.Sound.{IsSound, sound}
use Rattle.flow_graph.proofs.WalkLaws.{walks_stay_on_graph}
use Rattle.graph_runs.specs.Walking.{AreWalking, HaveGraph}
use Rattle.graph_runs.proofs.Walking.{runs_walk, walkers_are_not_stuck}
use Rattle.wcet_atomic_blocks.specs.Plants.{PlantData}
use Rattle.replay.specs.declared.player.Player.{Player}
use Rattle.replay.specs.declared.next.Next.{Next}
use Rattle.replay.specs.declared.next.Next.TheVariants as next
use Rattle.replay.specs.declared.response.PlayKind.{PlayKind}
use Rattle.replay.specs.declared.schedule.Schedule.{Schedule}
use Rattle.replay.specs.declared.turn.Turn.{Turn}
use Rattle.replay.specs.declared.turn.Turn.TheVariants as turns
use Rattle.replay.specs.Lawful.{IsLawful}
use Rattle.replay.specs.Playing.{CostsFully, IsNext, IsPlayed, IsRunOf, arrivals_made, next_of}
use Rattle.replay.specs.Tells.{Tells}
use Rattle.replay.specs.Turning.{IsBroken}
use Rattle.replay.specs.Working.Follows.{AreFew, KnowsArrivals, least_pending}
use Rattle.replay.specs.Working.Moves.{HasBroken, HasMoved, RunGives, RunsAt, Stays}
use Rattle.replay.specs.Working.Turns.{FollowsPlant, IsReady, MoveGives, Moved, StandsThere}
use Rattle.replay.proofs.Activity.{knows_active, response_then}
use Rattle.replay.proofs.Arriving.{knows_step}
use Rattle.replay.proofs.Following.{begun_still, declared_more, follows_on, now, plays_on, within_now}
use Rattle.replay.proofs.LapsDepth.{AreDeep, runs_deep, turns_in_room}
use Rattle.replay.proofs.Nexts.{runs_next}
use Rattle.replay.proofs.Played.{execution_costs, played_run}

-- ---- Each step takes time

cost_there : (n : ℕ) (costs : List ℕ) → AreCosts n costs → (k : ℕ) → k < n → 1 ≤ slice_index costs k
cost_there n costs are k within = let count = are.count in let here : IsCost (get_or costs k 0) = are.each k 0 (omega arith) in here.0

more : (a b : ℕ) → 1 ≤ a → 1 ≤ a + b
more a b h = omega arith

reg_costs : (timing : Timing) (taken : Bool) (c : Class) → timings.IsLawful timing → (c ≡ classes.System → ⊥) → 1 ≤ cost_of_class timing c taken
reg_costs timing taken classes.Alu lawful other = cost_there 8 timing.classes.costs lawful.classes 0 (omega arith)
reg_costs timing taken classes.Mul lawful other = cost_there 8 timing.classes.costs lawful.classes 1 (omega arith)
reg_costs timing taken classes.Div lawful other = cost_there 8 timing.classes.costs lawful.classes 2 (omega arith)
reg_costs timing taken classes.Load lawful other = cost_there 8 timing.classes.costs lawful.classes 3 (omega arith)
reg_costs timing taken classes.Store lawful other = cost_there 8 timing.classes.costs lawful.classes 4 (omega arith)
reg_costs timing true classes.Branch lawful other = lawful.taken.0
reg_costs timing false classes.Branch lawful other = cost_there 8 timing.classes.costs lawful.classes 5 (omega arith)
reg_costs timing taken classes.Jump lawful other = cost_there 8 timing.classes.costs lawful.classes 6 (omega arith)
reg_costs timing taken classes.Fence lawful other = cost_there 8 timing.classes.costs lawful.classes 7 (omega arith)
reg_costs timing taken classes.System lawful other = absurd (other refl)

no_system : (insn : Insn) (place device : ℕ) (registers : List ℕ) (memory : ℕ → Option ℕ) (effect : Effect) → executed insn place registers memory device ≡ Some effect
    → class_of insn ≡ classes.System → ⊥
no_system (Lui rd imm) place device registers memory effect does is = cc
no_system (Auipc rd imm) place device registers memory effect does is = cc
no_system (Jal rd offset) place device registers memory effect does is = cc
no_system (Jalr rd rs1 offset) place device registers memory effect does is = cc
no_system (Branch op rs1 rs2 offset) place device registers memory effect does is = cc
no_system (Load op rd rs1 offset) place device registers memory effect does is = cc
no_system (Save op rs1 rs2 offset) place device registers memory effect does is = cc
no_system (Imm op rd rs1 imm) place device registers memory effect does is = cc
no_system (Reg op rd rs1 rs2) place device registers memory effect does is = no_reg op is
  where
    no_reg : (op : RegOp) → reg_class op ≡ classes.System → ⊥
    no_reg reg.Mul is = cc
    no_reg reg.Mulh is = cc
    no_reg reg.Mulhsu is = cc
    no_reg reg.Mulhu is = cc
    no_reg reg.Div is = cc
    no_reg reg.Divu is = cc
    no_reg reg.Rem is = cc
    no_reg reg.Remu is = cc
    no_reg op is = cc
no_system (Fence rd rs1 imm) place device registers memory effect does is = cc
no_system Ecall place device registers memory effect does is = absurd (none-some effect does)
no_system Ebreak place device registers memory effect does is = absurd (none-some effect does)

service_lasts : (timing : Timing) (service : Service) (place : ℕ) → timings.IsLawful timing → 1 ≤ service_cost timing service place
service_lasts timing service place lawful =
    more (cost_of_service timing.services service) (extra_at timing.extra place)
    (cost_there 13 timing.services.costs lawful.services (place_of_service service) (inside service))
  where
    inside : (s : Service) → place_of_service s < 13
    inside services.ActivateTask = omega arith
    inside services.TerminateTask = omega arith
    inside services.ChainTask = omega arith
    inside services.GetResource = omega arith
    inside services.ReleaseResource = omega arith
    inside services.DisableAllInterrupts = omega arith
    inside services.EnableAllInterrupts = omega arith
    inside services.SuspendAllInterrupts = omega arith
    inside services.ResumeAllInterrupts = omega arith
    inside services.SuspendOSInterrupts = omega arith
    inside services.ResumeOSInterrupts = omega arith
    inside services.Schedule = omega arith
    inside services.EndIsr = omega arith

-- ---- What holds of a step of the running context

pub record RunFacts (image : ImageData) (system : System) (timing : Timing) (event : Event) (earlier : List Event) (before after : MachineState) : Type 0 where
  pub arrives : ArrivesInTime system timing event earlier
  pub costs : CostsAtMost image system timing event
  pub lasts : 1 ≤ cycles_of event
  pub none : arrivals_made (event ∷ earlier) ≡ arrivals_made earlier
  pub same : (source : ℕ) → arrivals_of source (event ∷ earlier) ≡ arrivals_of source earlier
  pub start : after.last_start ≡ before.moment
  pub pending : after.pending ≡ before.pending
  pub ended : (c : Context) → ended_by event ≡ Some c → IsContext system c

ended_exists : (system : System) (c : ServiceCall) (before : MachineState) → IsStateOf system before → runs system before.kernel ≡ Some c.caller
    → c.reply ≡ (served_by system c before).reply → (d : Context) → c.reply.ended ≡ Some d → IsContext system d
ended_exists system c before room running replied d ended =
    let serves : ServesActive before.kernel c.caller (served_by system c before) =
    services_keep_active system before.kernel c.caller c.service (argument_in c.before) ((the_first_runs system before.kernel).active c.caller running) in
    let who : d ≡ c.caller = serves.ended d (ap (λ (r : Reply). r.ended) (sym replied) ∙ ended) in
    subst (IsContext system) (sym who) (running_exists system before c.caller room running)

execution_lasts : (image : ImageData) (timing : Timing) (e : Execution) (insn : Insn) → timings.IsLawful timing → insn_at image e.before.place ≡ Some insn
    → (class_of insn ≡ classes.System → ⊥) → CostsFully image timing e → 1 ≤ e.cycles
execution_lasts image timing e insn lawful fetched other costs =
    let cost : e.cycles ≡ insn_cost timing (class_of insn) (takes_branch insn e.before.registers) e.before.place =
    subst (λ (o : Option Insn). IfSome o (λ i. e.cycles ≡ insn_cost timing (class_of i) (takes_branch i e.before.registers) e.before.place)) fetched costs in
    let least : 1 ≤ insn_cost timing (class_of insn) (takes_branch insn e.before.registers) e.before.place =
    more (cost_of_class timing (class_of insn) (takes_branch insn e.before.registers)) (extra_at timing.extra e.before.place)
    (reg_costs timing (takes_branch insn e.before.registers) (class_of insn) lawful other) in
    omega (arith, cost, least)

pub run_facts : (image : ImageData) (system : System) (timing : Timing) (event : Event) (earlier : List Event) (before after : MachineState) → timings.IsLawful timing → IsStateOf system before
    → Step image system event before after → IsRunOf image system timing before event → RunFacts image system timing event earlier before after
run_facts image system timing (Arrive a) earlier before after lawful room step played = absurd played
run_facts image system timing (Take t) earlier before after lawful room step played = absurd played
run_facts image system timing (Idle n) earlier before after lawful room step played = absurd played
run_facts image system timing (Execute e) earlier before after lawful room step played = record {
  arrives = tt;
  costs = execution_costs image timing e played.1;
  lasts = execution_lasts image timing e step.step.insn lawful step.step.fetched
      (no_system step.step.insn e.before.place e.device e.before.registers before.memory step.step.effect step.step.does) played.1;
  none = refl;
  same = λ source. refl;
  start = ap (λ (s : MachineState). s.last_start) step.becomes;
  pending = ap (λ (s : MachineState). s.pending) step.becomes;
  ended = λ c none. absurd (none-some c none);
}
run_facts image system timing (Serve c) earlier before after lawful room step played =
    let cost : c.cycles ≡ service_cost timing c.service c.before.place = ap (λ (d : ServiceCall). d.cycles) played in
    let least = service_lasts timing c.service c.before.place lawful in
    record {
      arrives = tt;
      costs = omega (arith, cost);
      lasts = omega (arith, cost, least);
      none = refl;
      same = λ source. refl;
      start = ap (λ (s : MachineState). s.last_start) step.becomes;
      pending = ap (λ (s : MachineState). s.pending) step.becomes;
      ended = λ d ended. ended_exists system c before room step.running step.replied d ended;
    }

-- ---- Before the step

calls_few : (plant : PlantData) (context : Context) (standing : Standing) (place target : ℕ) → HaveGraph plant.image plant.system plant.timing
    → Walk (program_of plant.image plant.system plant.timing) (place_of plant.system context) standing → place ≡ standing.place
    → turn_at (insn_at plant.image) place ≡ Some (Calling target) → length standing.calls < 16
unfolding WalksStayOnGraph
calls_few plant context standing place target have walk at turn =
    let program = program_of plant.image plant.system plant.timing in
    let on : IsOnGraph (program_of plant.image plant.system plant.timing) (place_of plant.system context) standing =
    walks_stay_on_graph program have.faultless (image_fits plant.image) (place_of plant.system context) standing walk in
    let here : turn_at (insn_at plant.image) on.node.address ≡ Some (Calling target) = ap (turn_at (insn_at plant.image)) (sym (at ∙ on.stands.place_is)) ∙ turn in
    let fine : IsSound program on.node (Calling target) = sound program on.node (Calling target) here (have.faultless.none on.node on.reached) in
    let few = leb-false 16 (length on.node.sites) fine.shallow in
    let same : length standing.calls ≡ length on.node.sites = ap length on.stands.calls_are in
    omega arith

pub ready : (plant : PlantData) (schedule : Schedule) (player : Player) (context : Context) (events : List Event) → HaveGraph plant.image plant.system plant.timing
    → timings.IsLawful plant.timing → IsLawful plant.system schedule → FollowsPlant plant schedule events player
    → next_of plant.system schedule player.arrivals (state_of player.machine) ≡ next.Run → runs plant.system (state_of player.machine).kernel ≡ Some context
    → IsReady plant player context
ready plant schedule player context events have timed lawful follows next running =
    let state : MachineState = state_of player.machine in
    let run : IsRun plant.image plant.system schedule.mode events state = played_run plant.image plant.system plant.timing schedule events state follows.run in
    let walking : AreWalking (program_of plant.image plant.system plant.timing) plant.system state =
    runs_walk plant.image plant.system plant.timing schedule.mode events state have run follows.declared.returns follows.clean in
    let deep : AreDeep plant.image plant.system events state = runs_deep plant.image plant.system schedule.mode events state have.system_lawful have.entries run in
    let is : IsContext plant.system context = running_exists plant.system state context follows.fits.room running in
    let comes = runs_next plant.system schedule player.arrivals state next in
    let soon = comes.before in let end = lawful.end in let steps = follows.few.steps in
    let made : player.arrivals ≤ length schedule.arrivals = follows.arrivals.few in let few = lawful.few in
    record {
      timing = timed;
      fits = follows.fits;
      running = running;
      goes = λ c address stuck. walkers_are_not_stuck plant.image plant.system plant.timing c address state have follows.fits.room walking stuck;
      laps = λ place there. record {
        kept = (events, follows.laps);
        shallow = turns_in_room plant.image plant.system plant.timing events state player.laps context there.standing (turn_at (insn_at plant.image) place)
            follows.laps deep is there.stands
            (λ target turn. calls_few plant context there.standing place target have (walking.walks context there.standing is there.stands) there.at turn);
      };
      tasks = follows.active.count;
      soon = omega arith;
      few = omega arith;
    }

-- where the context stands no instruction lacks, and none breaks
pub never_none : (plant : PlantData) (player : Player) (context : Context) (place : ℕ) → IsReady plant player context
    → StandsThere plant.system (state_of player.machine) context place → insn_at plant.image place ≡ None → ⊥
never_none plant player context place ready there none = ready.goes context place (record {
  standing = there.standing;
  running = ready.running;
  stands = there.stands;
  place = there.at;
  stuck = ap (is_stuck_at plant.system there.standing) (ap (insn_at plant.image) (sym there.at) ∙ none);
})

pub never_breaks : (plant : PlantData) (player : Player) (context : Context) (place : ℕ) → IsReady plant player context
    → RunsAt plant.image plant.system (state_of player.machine) context place Ebreak → ⊥
never_breaks plant player context place ready at = ready.goes context place (record {
  standing = at.standing;
  running = at.running;
  stands = at.stands;
  place = at.at;
  stuck = ap (is_stuck_at plant.system at.standing) (ap (insn_at plant.image) (sym at.at) ∙ at.fetched);
})

-- ---- After it

no_done : (event : Event) (events : List Event) → Tells event events turns.Done → ⊥
no_done (Arrive a) events tells = tells
no_done (Take t) events tells = tells
no_done (Execute e) events tells = tells
no_done (Serve c) events tells = tells
no_done (Idle n) events tells = tells

pub moved_gives : (plant : PlantData) (schedule : Schedule) (events : List Event) (before after : Player) (turn : Turn)
    → Moved plant schedule events before after turn → MoveGives plant schedule events before after (Ok turn)
moved_gives plant schedule events before after turns.Done moved = absurd (no_done moved.event events moved.tells)
moved_gives plant schedule events before after (turns.Arrive source moment) moved = moved
moved_gives plant schedule events before after (turns.Take source start end) moved = moved
moved_gives plant schedule events before after (turns.Insn start end) moved = moved
moved_gives plant schedule events before after (turns.Service c sites address start end) moved = moved
moved_gives plant schedule events before after (turns.Idle end) moved = moved

run_moved : (plant : PlantData) (schedule : Schedule) (events : List Event) (before after : Player) (turn : Turn) → timings.IsLawful plant.timing → IsLawful plant.system schedule
    → FollowsPlant plant schedule events before → next_of plant.system schedule before.arrivals (state_of before.machine) ≡ next.Run
    → HasMoved plant before after turn → Moved plant schedule events before after turn
run_moved plant schedule events before after turn timed lawful follows next moved =
    let event : Event = moved.event in
    let facts : RunFacts plant.image plant.system plant.timing event events (state_of before.machine) (state_of after.machine) =
    run_facts plant.image plant.system plant.timing event events (state_of before.machine) (state_of after.machine) timed follows.fits.room moved.run.step moved.run.played in
    let passes : Passes event (state_of before.machine) (state_of after.machine) =
    steps_take_their_time plant.image plant.system event (state_of before.machine) (state_of after.machine) moved.run.step in
    let comes = runs_next plant.system schedule before.arrivals (state_of before.machine) next in
    let is_now = now plant.image plant.system plant.timing schedule events before follows in
    let kept = moved.laps events follows.laps (within_now plant.image plant.system plant.timing events follows.declared) in
    let time = passes.moment in let lasts = facts.lasts in let soon = comes.before in let end = lawful.end in let steps = follows.few.steps in
    let listed : before.arrivals ≤ length schedule.arrivals = follows.arrivals.few in let few = lawful.few in
    let made = moved.made in let stay = moved.arrivals.arrivals in
    record {
      event = event;
      tells = moved.told events is_now;
      follows = follows_on plant.image plant.system plant.timing schedule event events before after follows
          (record {
            step = moved.run.step;
            next = subst (λ (n : Next). IsNext plant.image plant.system plant.timing (state_of before.machine) n event) (sym next) moved.run.played;
            fits = moved.run.fits;
            clean = moved.clean;
            declared = declared_more plant.image plant.system plant.timing event events facts.arrives moved.returns moved.code kept.1 facts.costs follows.declared;
            made = moved.made;
            few = record { steps = omega arith; most = omega arith };
          })
          (knows_step plant.system schedule event events (state_of before.machine).last_start (state_of after.machine).last_start before.arrivals after.arrivals
          before.newest.items after.newest.items facts.none facts.same
          (begun_still schedule before (state_of after.machine).last_start facts.start comes.undue) moved.arrivals.arrivals moved.arrivals.newest follows.arrivals)
          (moved.pending ∙ (follows.pending ∙ ap least_pending (sym facts.pending)))
          (knows_active plant.system schedule.mode (state_of before.machine).moment event events before.active.items after.active.items is_now moved.active follows.active)
          kept.0;
      ended = moved.ended ∙ response_then plant.system schedule.mode (state_of after.machine).moment event events before.active.items (ended_by event)
          (time ∙ ap (λ n. n + cycles_of event) is_now) facts.ended follows.active;
      fault = moved.fault;
    }

run_broken : (plant : PlantData) (schedule : Schedule) (events : List Event) (before after : Player) (fault : PlayKind)
    → FollowsPlant plant schedule events before → next_of plant.system schedule before.arrivals (state_of before.machine) ≡ next.Run
    → HasBroken plant before after fault → IsBroken plant schedule events fault
run_broken plant schedule events before after fault follows next broken = record {
  event = broken.event;
  played = record {
    state = state_of after.machine;
    played = plays_on plant.image plant.system plant.timing schedule broken.event events before (state_of after.machine) follows broken.run.step
        (subst (λ (n : Next). IsNext plant.image plant.system plant.timing (state_of before.machine) n broken.event) (sym next) broken.run.played);
  };
  breaks = broken.breaks events follows.laps (within_now plant.image plant.system plant.timing events follows.declared) (now plant.image plant.system plant.timing schedule events before follows);
}

stays_following : (plant : PlantData) (schedule : Schedule) (events : List Event) (before after : Player) → FollowsPlant plant schedule events before
    → Stays plant.image plant.system before after → FollowsPlant plant schedule events after
stays_following plant schedule events before after follows stays =
    let state : state_of before.machine ≡ state_of after.machine = sym stays.state in
    subst (FollowsPlant plant schedule events) (sym stays.same) (record {
      run = subst (IsPlayed plant.image plant.system plant.timing schedule events) state follows.run;
      fits = stays.fits;
      declared = follows.declared;
      clean = follows.clean;
      made = follows.made;
      few = subst (λ (s : MachineState). AreFew before.made before.arrivals s.moment) state follows.few;
      arrivals = subst (λ (s : MachineState). KnowsArrivals plant.system schedule events s.last_start before.arrivals before.newest.items) state follows.arrivals;
      pending = follows.pending ∙ ap (λ (s : MachineState). least_pending s.pending) state;
      active = follows.active;
      laps = follows.laps;
    })

pub run_gives : (plant : PlantData) (schedule : Schedule) (events : List Event) (before after : Player) → timings.IsLawful plant.timing → IsLawful plant.system schedule
    → FollowsPlant plant schedule events before → next_of plant.system schedule before.arrivals (state_of before.machine) ≡ next.Run
    → (result : Result Turn (Fault PlayKind)) → RunGives plant before after result → MoveGives plant schedule events before after result
run_gives plant schedule events before after timed lawful follows next (Ok turn) gives =
    moved_gives plant schedule events before after turn (run_moved plant schedule events before after turn timed lawful follows next gives)
run_gives plant schedule events before after timed lawful follows next (Err (Kind fault)) gives =
    (run_broken plant schedule events before after fault follows next gives, gives.made)
run_gives plant schedule events before after timed lawful follows next (Err Memory) gives =
    (stays_following plant schedule events before after follows gives, ap (λ (p : Player). p.fault) gives.same)
