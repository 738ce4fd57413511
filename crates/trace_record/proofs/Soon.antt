-- A run that a schedule plays ends soon: at most one step passes the schedule's end.
use Rattle.std.proofs.Common.{◌≡◌, ℕ, ◌+◌, ◌^◌, ◌<◌, ◌≤◌, nat_lt, nat_le, Bool, List, [], ◌∷◌, Option, Some, None, refl, subst, arith, is_some, position}
use Rattle.std.specs.Prelude.{slice_get, IfSome}
use Rattle.std.proofs.lemmas.Bool.{ltb-true, leb-false, cond_both}
use Rattle.elf_image.specs.Image.{ImageData}
use Rattle.oil_model.specs.declared.system.System.{System}
use Rattle.timing_file.specs.declared.timing.Timing.{Timing}
use Rattle.timing_file.specs.Costs.{insn_cost, service_cost}
use Rattle.timing_file.specs.Lawful.{IsLawful as IsLawfulTiming}
use Rattle.timing_file.proofs.Bounds.{cost_of_class-le, cost_of_service-le, extra_at-small}
use Rattle.rv32_decode.specs.declared.instruction.Insn.{Insn}
use Rattle.rv32_decode.specs.Instructions.{class_of}
use Rattle.osek_kernel.specs.declared.service.Service.{Service}
use Rattle.osek_kernel.specs.declared.source.Source.{Source}
use Rattle.osek_kernel.specs.declared.source.Source.TheVariants as sources
use Rattle.osek_kernel.specs.Kernel.{interrupts_open}
use Rattle.osek_kernel.specs.Running.{runs}
use Rattle.osek_kernel.specs.Sources.{source_at}
use Rattle.osek_machine.specs.Declarations.{IsDeclared, CostsAtMost, take_cost, takes_branch}
use Rattle.osek_machine.specs.Events.{Event, Arrive, Take, Execute, Serve, Idle, cycles_of, duration}
use Rattle.osek_machine.specs.State.{MachineState}
use Rattle.osek_machine.specs.Steps.{Step}
use Rattle.osek_machine.proofs.Times.{runs_take_their_time}
use Rattle.replay.specs.declared.schedule.Arrival.{Arrival}
use Rattle.replay.specs.declared.schedule.Schedule.{Schedule}
use Rattle.replay.specs.Playing.{IsNext, IsPlayed, arrivals_made, arriving, is_due, next_of, running, taking, undue, waiting}
use Rattle.trace_record.proofs.Playing.{played_run}

-- ---- What comes next

-- time passes only up to the end
waiting_within : (image : ImageData) (system : System) (timing : Timing) (state : MachineState) (end cycles : ℕ) (arrival : Option Arrival)
    → IsNext image system timing state (waiting state end arrival) (Idle cycles) → cycles ≤ end
waiting_within image system timing state end cycles None = λ is. absurd is
waiting_within image system timing state end cycles (Some arrival) =
    cond_both (nat_lt arrival.at end) _ _ (λ n. IsNext image system timing state n (Idle cycles) → cycles ≤ end)
    (λ below is. (let before = ltb-true arrival.at end below in omega (arith, is))) (λ past is. absurd is)

running_within : (image : ImageData) (system : System) (timing : Timing) (state : MachineState) (end cycles : ℕ) (arrival : Option Arrival)
    → IsNext image system timing state (running system state end arrival) (Idle cycles) → cycles ≤ end
running_within image system timing state end cycles arrival =
    cond_both (is_some (runs system state.kernel)) _ _ (λ n. IsNext image system timing state n (Idle cycles) → cycles ≤ end)
    (λ somebody is. absurd is) (λ nobody. waiting_within image system timing state end cycles arrival)

taking_within : (image : ImageData) (system : System) (timing : Timing) (state : MachineState) (end cycles : ℕ) (arrival : Option Arrival)
    (source : Option ℕ) → IsNext image system timing state (taking system state end arrival source) (Idle cycles) → cycles ≤ end
taking_within image system timing state end cycles arrival None = running_within image system timing state end cycles arrival
taking_within image system timing state end cycles arrival (Some source) =
    cond_both (interrupts_open state.kernel) _ _ (λ n. IsNext image system timing state n (Idle cycles) → cycles ≤ end)
    (λ are is. absurd is) (λ arent. running_within image system timing state end cycles arrival)

undue_within : (image : ImageData) (system : System) (timing : Timing) (state : MachineState) (end cycles : ℕ) (arrival : Option Arrival)
    → IsNext image system timing state (undue system state end arrival) (Idle cycles) → cycles ≤ end
undue_within image system timing state end cycles arrival =
    taking_within image system timing state end cycles arrival (position (λ pending. pending) state.pending)

arriving_within : (image : ImageData) (system : System) (timing : Timing) (state : MachineState) (end cycles : ℕ) (arrival : Option Arrival)
    → IsNext image system timing state (arriving system state end arrival) (Idle cycles) → cycles ≤ end
arriving_within image system timing state end cycles None = undue_within image system timing state end cycles None
arriving_within image system timing state end cycles (Some arrival) =
    cond_both (is_due state arrival) _ _ (λ n. IsNext image system timing state n (Idle cycles) → cycles ≤ end)
    (λ due is. absurd is) (λ isnt. undue_within image system timing state end cycles (Some arrival))

-- a step is made before the end
goes_on : (image : ImageData) (system : System) (timing : Timing) (schedule : Schedule) (event : Event) (made : ℕ) (before : MachineState)
    → IsNext image system timing before (next_of system schedule made before) event → before.moment < schedule.end
goes_on image system timing schedule event made before =
    cond_both (nat_le schedule.end before.moment) _ _ (λ n. IsNext image system timing before n event → before.moment < schedule.end)
    (λ stopped is. absurd is) (λ early is. leb-false schedule.end before.moment early)

idles_within : (image : ImageData) (system : System) (timing : Timing) (schedule : Schedule) (cycles made : ℕ) (before : MachineState)
    → IsNext image system timing before (next_of system schedule made before) (Idle cycles) → cycles ≤ schedule.end
idles_within image system timing schedule cycles made before =
    cond_both (nat_le schedule.end before.moment) _ _ (λ n. IsNext image system timing before n (Idle cycles) → cycles ≤ schedule.end)
    (λ stopped is. absurd is)
    (λ early. arriving_within image system timing before schedule.end cycles (slice_get schedule.arrivals made))

-- ---- What a step costs

insn_small : (timing : Timing) (insn : Insn) (taken : Bool) (address : ℕ) → IsLawfulTiming timing → insn_cost timing (class_of insn) taken address ≤ 2 ^ 29
insn_small timing insn taken address lawful =
    let class = cost_of_class-le timing (class_of insn) taken lawful in
    let extra = extra_at-small timing.extra address lawful.extra in
    omega arith

service_small : (timing : Timing) (service : Service) (address : ℕ) → IsLawfulTiming timing → service_cost timing service address ≤ 2 ^ 29
service_small timing service address lawful =
    let own = cost_of_service-le timing.services service lawful.services in
    let extra = extra_at-small timing.extra address lawful.extra in
    omega arith

take_small : (timing : Timing) (source : Source) → IsLawfulTiming timing → take_cost timing source ≤ 2 ^ 29
take_small timing (sources.Alarm a) lawful = let most = lawful.alarm.1 in omega arith
take_small timing (sources.Isr i) lawful = let most = lawful.interrupt.1 in omega arith

cycles_small : (image : ImageData) (system : System) (timing : Timing) (schedule : Schedule) (event : Event) (made : ℕ) (before after : MachineState)
    → IsLawfulTiming timing → CostsAtMost image system timing event → Step image system event before after
    → IsNext image system timing before (next_of system schedule made before) event → cycles_of event ≤ schedule.end + 2 ^ 29
cycles_small image system timing schedule (Arrive a) made before after lawful costs step is = omega arith
cycles_small image system timing schedule (Take t) made before after lawful costs step is =
    let small = take_small timing (source_at system t.source) lawful in omega (arith, costs)
cycles_small image system timing schedule (Execute e) made before after lawful costs step is =
    let insn : Insn = step.step.insn in
    let small = insn_small timing insn (takes_branch insn e.before.registers) e.before.place lawful in
    let most : e.cycles ≤ insn_cost timing (class_of insn) (takes_branch insn e.before.registers) e.before.place =
    subst (λ (o : Option Insn). IfSome o (λ i. e.cycles ≤ insn_cost timing (class_of i) (takes_branch i e.before.registers) e.before.place))
    step.step.fetched costs in omega arith
cycles_small image system timing schedule (Serve s) made before after lawful costs step is =
    let small = service_small timing s.service s.before.place lawful in omega (arith, costs)
cycles_small image system timing schedule (Idle cycles) made before after lawful costs step is =
    let most = idles_within image system timing schedule cycles made before is in omega arith

-- ---- The run

pub ends_soon : (image : ImageData) (system : System) (timing : Timing) (schedule : Schedule) (events : List Event) (state : MachineState)
    → IsLawfulTiming timing → schedule.end ≤ 2 ^ 24 → IsPlayed image system timing schedule events state → IsDeclared image system timing events
    → duration events < 2 ^ 63
ends_soon image system timing schedule [] state lawful end played declared = omega arith
ends_soon image system timing schedule (event ∷ earlier) state lawful end played declared =
    let before : MachineState = played.0 in
    let early = goes_on image system timing schedule event (arrivals_made earlier) before played.2.next in
    let small = cycles_small image system timing schedule event (arrivals_made earlier) before state lawful declared.costs.0 played.2.step played.2.next in
    let now : before.moment ≡ duration earlier =
    (runs_take_their_time image system schedule.mode earlier before (played_run image system timing schedule earlier before played.1)).moment in
    let all : duration (event ∷ earlier) ≡ duration earlier + cycles_of event = refl in
    omega arith
