-- The run that a schedule plays: at each turn one step is made, the same in every state. Registers are those with
-- which the program starts its contexts, a device gives zeros, each step takes the most cycles that are declared for
-- it, and a pending source is taken at once, the least first.
use Rattle.std.specs.Prelude.{◌≡◌, ℕ, ◌+◌, ◌-◌, Bool, nat_lt, nat_le, List, [], ◌∷◌, is_some, position, slice_get, Option, Some, None, IfSome, if◌then◌else◌}
use Rattle.oil_model.specs.declared.system.System.{System}
use Rattle.elf_image.specs.Image.{ImageData}
use Rattle.timing_file.specs.declared.timing.Timing.{Timing}
use Rattle.timing_file.specs.Costs.{insn_cost, service_cost}
use Rattle.rv32_decode.specs.Instructions.{class_of}
use Rattle.rv32_machine.specs.Code.{insn_at}
use Rattle.osek_kernel.specs.Kernel.{interrupts_open}
use Rattle.osek_kernel.specs.Running.{runs}
use Rattle.osek_kernel.specs.Sources.{source_at, number_of}
use Rattle.osek_machine.specs.State.{MachineState}
use Rattle.osek_machine.specs.Events.{Execution, Event, Arrive, Take, Execute, Serve, Idle}
use Rattle.osek_machine.specs.Steps.{Step}
use Rattle.osek_machine.specs.Declarations.{takes_branch, take_cost}
use Rattle.osek_machine.specs.Machine.{Begins, taking_of, call_of}
use Rattle.replay.specs.declared.schedule.Arrival.{Arrival}
use Rattle.replay.specs.declared.schedule.Schedule.{Schedule}
use Rattle.replay.specs.declared.next.Next.{Next}
use Rattle.replay.specs.declared.next.Next.TheVariants as next

-- ---- What comes next

abbrev pub is_due : MachineState → Arrival → Bool
is_due state arrival = nat_le arrival.at state.moment

-- time passes up to the next arrival, if that lies before the end
abbrev pub waiting : MachineState → ℕ → Option Arrival → Next
waiting state end None = next.Stop
waiting state end (Some arrival) = if nat_lt arrival.at end then next.Wait (arrival.at - state.moment) else next.Stop

-- the running context makes a step, or no context is active and time passes
abbrev pub running : System → MachineState → ℕ → Option Arrival → Next
running system state end arrival = if is_some (runs system state.kernel) then next.Run else waiting state end arrival

-- the least pending source is taken, while interrupts are open
abbrev pub taking : System → MachineState → ℕ → Option Arrival → Option ℕ → Next
taking system state end arrival None = running system state end arrival
taking system state end arrival (Some source) =
    if interrupts_open state.kernel then next.Take source else running system state end arrival

abbrev pub undue : System → MachineState → ℕ → Option Arrival → Next
undue system state end arrival = taking system state end arrival (position (λ pending. pending) state.pending)

-- an arrival that is due is made first
abbrev pub arriving : System → MachineState → ℕ → Option Arrival → Next
arriving system state end None = undue system state end None
arriving system state end (Some arrival) = if is_due state arrival then next.Arrive arrival else undue system state end (Some arrival)

-- What comes next in a state in which so many of the listed arrivals have been made: the run ends at the schedule's
-- end.
abbrev pub next_of : System → Schedule → ℕ → MachineState → Next
next_of system schedule made state =
    if nat_le schedule.end state.moment then next.Stop
    else arriving system state schedule.end (slice_get schedule.arrivals made)

-- ---- The step that is made

abbrev pub IsArrivalOf : System → Arrival → Event → Type 0
IsArrivalOf system arrival (Arrive a) = (a.source ≡ number_of system arrival.source) × (a.moment ≡ arrival.at)
IsArrivalOf system arrival event = ⊥

abbrev pub IsTakeOf : ImageData → System → Timing → ℕ → MachineState → Event → Type 0
IsTakeOf image system timing source before (Take t) = t ≡ taking_of image system source (take_cost timing (source_at system source)) before
IsTakeOf image system timing source before event = ⊥

-- the cycles of the instruction where the context stands
abbrev pub CostsFully : ImageData → Timing → Execution → Type 0
CostsFully image timing e =
    IfSome (insn_at image e.before.place) (λ insn. e.cycles ≡ insn_cost timing (class_of insn) (takes_branch insn e.before.registers) e.before.place)

abbrev pub IsRunOf : ImageData → System → Timing → MachineState → Event → Type 0
IsRunOf image system timing before (Execute e) = (e.device ≡ 0) × CostsFully image timing e
IsRunOf image system timing before (Serve c) = c ≡ call_of image system (service_cost timing c.service c.before.place) c.caller c.before c.service before
IsRunOf image system timing before event = ⊥

abbrev pub IsWaitOf : ℕ → Event → Type 0
IsWaitOf cycles (Idle passed) = passed ≡ cycles
IsWaitOf cycles event = ⊥

-- the step is the one that comes next
abbrev pub IsNext : ImageData → System → Timing → MachineState → Next → Event → Type 0
IsNext image system timing before next.Stop event = ⊥
IsNext image system timing before (next.Arrive arrival) event = IsArrivalOf system arrival event
IsNext image system timing before (next.Take source) event = IsTakeOf image system timing source before event
IsNext image system timing before next.Run event = IsRunOf image system timing before event
IsNext image system timing before (next.Wait cycles) event = IsWaitOf cycles event

-- ---- The run

-- how many listed arrivals were made
abbrev pub arrivals_made : List Event → ℕ
arrivals_made [] = 0
arrivals_made (Arrive a ∷ earlier) = arrivals_made earlier + 1
arrivals_made (event ∷ earlier) = arrivals_made earlier

-- one more step is made
pub record Plays (image : ImageData) (system : System) (timing : Timing) (schedule : Schedule) (event : Event) (earlier : List Event)
    (before after : MachineState) : Type 0 where
  pub next : IsNext image system timing before (next_of system schedule (arrivals_made earlier) before) event
  pub step : Step image system event before after

-- The steps that were made, of which the newest stands first, lead to the state.
abbrev pub IsPlayed : ImageData → System → Timing → Schedule → List Event → MachineState → Type 0
IsPlayed image system timing schedule [] state = Begins image system schedule.mode state
IsPlayed image system timing schedule (event ∷ earlier) state =
    (before : MachineState) × IsPlayed image system timing schedule earlier before
    × Plays image system timing schedule event earlier before state

-- the run ends in the state
abbrev pub HasStopped : System → Schedule → List Event → MachineState → Type 0
HasStopped system schedule events state = next_of system schedule (arrivals_made events) state ≡ next.Stop
