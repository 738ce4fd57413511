-- What holds where a step comes next.
use Rattle.std.proofs.Common.{◌≡◌, ℕ, ◌-◌, ◌<◌, ◌≤◌, true, false, Option, Some, None, refl, subst}
use Rattle.std.specs.Prelude.{is_some, nat_le, nat_lt, slice_get}
use Rattle.std.proofs.lemmas.Bool.{cond_both, leb-true, leb-false, ltb-true}
use Rattle.std.proofs.lemmas.Option.{same_Some, none-some}
use Rattle.oil_model.specs.declared.system.System.{System}
use Rattle.osek_kernel.specs.Kernel.{interrupts_open}
use Rattle.osek_kernel.specs.Running.{runs}
use Rattle.osek_machine.specs.State.{MachineState}
use Rattle.replay.specs.declared.next.Next.{Next}
use Rattle.replay.specs.declared.next.Next.TheVariants as next
use Rattle.replay.specs.declared.schedule.Arrival.{Arrival}
use Rattle.replay.specs.declared.schedule.Schedule.{Schedule}
use Rattle.replay.specs.Playing.{is_due, waiting, running, taking, undue, arriving, next_of}
use Rattle.replay.specs.Working.Follows.{least_pending}

-- the next arrival, if there is one, comes later
pub record IsUndue (state : MachineState) (arrival : Option Arrival) : Type 0 where
  pub later : (a : Arrival) → arrival ≡ Some a → state.moment < a.at

pub data NextIs (system : System) (end : ℕ) (arrival : Option Arrival) (state : MachineState) : Next → Type 0 where
  stops : NextIs system end arrival state next.Stop
  arrives : (a : Arrival) → state.moment < end → arrival ≡ Some a → a.at ≤ state.moment → NextIs system end arrival state (next.Arrive a)
  takes : (source : ℕ) → state.moment < end → IsUndue state arrival → least_pending state.pending ≡ Some source
      → interrupts_open state.kernel ≡ true → NextIs system end arrival state (next.Take source)
  runs_on : state.moment < end → IsUndue state arrival → is_some (runs system state.kernel) ≡ true → NextIs system end arrival state next.Run
  waits : (cycles : ℕ) (a : Arrival) → state.moment < end → IsUndue state arrival → is_some (runs system state.kernel) ≡ false → arrival ≡ Some a
      → a.at < end → cycles ≡ a.at - state.moment → NextIs system end arrival state (next.Wait cycles)

waiting_is : (system : System) (state : MachineState) (end : ℕ) (arrival : Option Arrival) → state.moment < end → IsUndue state arrival
    → is_some (runs system state.kernel) ≡ false → NextIs system end arrival state (waiting state end arrival)
waiting_is system state end None before undue nobody = stops
waiting_is system state end (Some a) before undue nobody =
    cond_both (nat_lt a.at end) (next.Wait (a.at - state.moment)) next.Stop (NextIs system end (Some a) state)
    (λ h. waits (a.at - state.moment) a before undue nobody refl (ltb-true a.at end h) refl) (λ h. stops)

running_is : (system : System) (state : MachineState) (end : ℕ) (arrival : Option Arrival) → state.moment < end → IsUndue state arrival
    → NextIs system end arrival state (running system state end arrival)
running_is system state end arrival before undue =
    cond_both (is_some (runs system state.kernel)) next.Run (waiting state end arrival) (NextIs system end arrival state)
    (λ h. runs_on before undue h) (λ h. waiting_is system state end arrival before undue h)

taking_is : (system : System) (state : MachineState) (end : ℕ) (arrival : Option Arrival) (pending : Option ℕ) → state.moment < end → IsUndue state arrival
    → least_pending state.pending ≡ pending → NextIs system end arrival state (taking system state end arrival pending)
taking_is system state end arrival None before undue least = running_is system state end arrival before undue
taking_is system state end arrival (Some source) before undue least =
    cond_both (interrupts_open state.kernel) (next.Take source) (running system state end arrival) (NextIs system end arrival state)
    (λ h. takes source before undue least h) (λ h. running_is system state end arrival before undue)

arriving_is : (system : System) (state : MachineState) (end : ℕ) (arrival : Option Arrival) → state.moment < end
    → NextIs system end arrival state (arriving system state end arrival)
arriving_is system state end None before =
    taking_is system state end None (least_pending state.pending) before (record { later = λ a e. absurd (none-some a e) }) refl
arriving_is system state end (Some a) before =
    cond_both (is_due state a) (next.Arrive a) (undue system state end (Some a)) (NextIs system end (Some a) state)
    (λ h. arrives a before refl (leb-true a.at state.moment h))
    (λ h. taking_is system state end (Some a) (least_pending state.pending) before
    (record { later = λ b e. subst (λ (c : Arrival). state.moment < c.at) (same_Some a b e) (leb-false a.at state.moment h) }) refl)

pub next_is : (system : System) (schedule : Schedule) (made : ℕ) (state : MachineState)
    → NextIs system schedule.end (slice_get schedule.arrivals made) state (next_of system schedule made state)
next_is system schedule made state =
    cond_both (nat_le schedule.end state.moment) next.Stop (arriving system state schedule.end (slice_get schedule.arrivals made))
    (NextIs system schedule.end (slice_get schedule.arrivals made) state)
    (λ h. stops) (λ h. arriving_is system state schedule.end (slice_get schedule.arrivals made) (leb-false schedule.end state.moment h))

-- ---- The same by what comes next

pub record ArrivesNext (end : ℕ) (arrival : Option Arrival) (state : MachineState) (a : Arrival) : Type 0 where
  pub before : state.moment < end
  pub listed : arrival ≡ Some a
  pub due : a.at ≤ state.moment

pub record TakesNext (end : ℕ) (arrival : Option Arrival) (state : MachineState) (source : ℕ) : Type 0 where
  pub before : state.moment < end
  pub undue : IsUndue state arrival
  pub least : least_pending state.pending ≡ Some source
  pub interrupts : interrupts_open state.kernel ≡ true

pub record RunsNext (system : System) (end : ℕ) (arrival : Option Arrival) (state : MachineState) : Type 0 where
  pub before : state.moment < end
  pub undue : IsUndue state arrival
  pub somebody : is_some (runs system state.kernel) ≡ true

pub record WaitsNext (system : System) (end : ℕ) (arrival : Option Arrival) (state : MachineState) (cycles : ℕ) : Type 0 where
  pub before : state.moment < end
  pub undue : IsUndue state arrival
  pub nobody : is_some (runs system state.kernel) ≡ false
  pub next : Arrival
  pub listed : arrival ≡ Some next
  pub within : next.at < end
  pub cycles_are : cycles ≡ next.at - state.moment

arrives_in : {system : System} {end : ℕ} {arrival : Option Arrival} {state : MachineState} {a : Arrival} → NextIs system end arrival state (next.Arrive a) → ArrivesNext end arrival state a
arrives_in (arrives a before listed due) = record { before = before; listed = listed; due = due }

takes_in : {system : System} {end : ℕ} {arrival : Option Arrival} {state : MachineState} {source : ℕ} → NextIs system end arrival state (next.Take source) → TakesNext end arrival state source
takes_in (takes source before undue least interrupts) = record { before = before; undue = undue; least = least; interrupts = interrupts }

runs_in : {system : System} {end : ℕ} {arrival : Option Arrival} {state : MachineState} → NextIs system end arrival state next.Run → RunsNext system end arrival state
runs_in (runs_on before undue somebody) = record { before = before; undue = undue; somebody = somebody }

waits_in : {system : System} {end : ℕ} {arrival : Option Arrival} {state : MachineState} {cycles : ℕ} → NextIs system end arrival state (next.Wait cycles) → WaitsNext system end arrival state cycles
waits_in (waits cycles a before undue nobody listed within are) =
    record { before = before; undue = undue; nobody = nobody; next = a; listed = listed; within = within; cycles_are = are }

pub arrives_next : (system : System) (schedule : Schedule) (made : ℕ) (state : MachineState) (a : Arrival)
    → next_of system schedule made state ≡ next.Arrive a → ArrivesNext schedule.end (slice_get schedule.arrivals made) state a
arrives_next system schedule made state a e =
    arrives_in (subst (NextIs system schedule.end (slice_get schedule.arrivals made) state) e (next_is system schedule made state))

pub takes_next : (system : System) (schedule : Schedule) (made : ℕ) (state : MachineState) (source : ℕ)
    → next_of system schedule made state ≡ next.Take source → TakesNext schedule.end (slice_get schedule.arrivals made) state source
takes_next system schedule made state source e =
    takes_in (subst (NextIs system schedule.end (slice_get schedule.arrivals made) state) e (next_is system schedule made state))

pub runs_next : (system : System) (schedule : Schedule) (made : ℕ) (state : MachineState)
    → next_of system schedule made state ≡ next.Run → RunsNext system schedule.end (slice_get schedule.arrivals made) state
runs_next system schedule made state e =
    runs_in (subst (NextIs system schedule.end (slice_get schedule.arrivals made) state) e (next_is system schedule made state))

pub waits_next : (system : System) (schedule : Schedule) (made : ℕ) (state : MachineState) (cycles : ℕ)
    → next_of system schedule made state ≡ next.Wait cycles → WaitsNext system schedule.end (slice_get schedule.arrivals made) state cycles
waits_next system schedule made state cycles e =
    waits_in (subst (NextIs system schedule.end (slice_get schedule.arrivals made) state) e (next_is system schedule made state))
