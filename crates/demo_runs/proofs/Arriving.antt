-- In the run of a generated system each source arrives once at most: the arrivals are those of the schedule, in order.
use Rattle.std.proofs.Common.{◌≡◌, ℕ, zero, suc, ◌+◌, ◌≤◌, List, [], ◌∷◌, map, Option, Some, None, refl, sym, ap, ◌∙◌, arith, position}
use Rattle.std.specs.Prelude.{slice_get, is_some, nat_le, nat_lt}
use Rattle.std.specs.List.{range_with_len}
use Rattle.std.proofs.lemmas.Bool.{cond_both, ne_eqb}
use Rattle.std.proofs.lemmas.Option.{none-some, same_Some}
use Rattle.elf_image.specs.Image.{ImageData}
use Rattle.oil_model.specs.declared.system.System.{System}
use Rattle.timing_file.specs.declared.timing.Timing.{Timing}
use Rattle.osek_kernel.specs.Kernel.{interrupts_open}
use Rattle.osek_kernel.specs.Running.{runs}
use Rattle.osek_kernel.specs.Sources.{number_of}
use Rattle.osek_machine.specs.Declarations.{IsInTime, arrivals_of}
use Rattle.osek_machine.specs.Events as events
use Rattle.osek_machine.specs.Events.{Event, Arrive, Take, Execute, Serve, Idle}
use Rattle.osek_machine.specs.State.{MachineState}
use Rattle.replay.specs.declared.schedule.Arrival.{Arrival}
use Rattle.replay.specs.declared.schedule.Schedule.{Schedule}
use Rattle.replay.specs.Playing.{IsNext, IsPlayed, arrivals_made, arriving, is_due, next_of, running, taking, undue, waiting}
use Rattle.demo_runs.specs.Schedule.{arrival_of, the_schedule}

-- ---- What arrives next

no_wait : (image : ImageData) (system : System) (timing : Timing) (state : MachineState) (end : ℕ) (arrival : Option Arrival) (a : events.Arrival)
    → IsNext image system timing state (waiting state end arrival) (Arrive a) → ⊥
no_wait image system timing state end None a = λ is. is
no_wait image system timing state end (Some arrival) a =
    cond_both (nat_lt arrival.at end) _ _ (λ n. IsNext image system timing state n (Arrive a) → ⊥) (λ before is. is) (λ past is. is)

no_run : (image : ImageData) (system : System) (timing : Timing) (state : MachineState) (end : ℕ) (arrival : Option Arrival) (a : events.Arrival)
    → IsNext image system timing state (running system state end arrival) (Arrive a) → ⊥
no_run image system timing state end arrival a =
    cond_both (is_some (runs system state.kernel)) _ _ (λ n. IsNext image system timing state n (Arrive a) → ⊥)
    (λ somebody is. is) (λ nobody. no_wait image system timing state end arrival a)

no_take : (image : ImageData) (system : System) (timing : Timing) (state : MachineState) (end : ℕ) (arrival : Option Arrival) (source : Option ℕ) (a : events.Arrival)
    → IsNext image system timing state (taking system state end arrival source) (Arrive a) → ⊥
no_take image system timing state end arrival None a = no_run image system timing state end arrival a
no_take image system timing state end arrival (Some source) a =
    cond_both (interrupts_open state.kernel) _ _ (λ n. IsNext image system timing state n (Arrive a) → ⊥)
    (λ are is. is) (λ arent. no_run image system timing state end arrival a)

-- where no arrival is due, none is made
not_undue : (image : ImageData) (system : System) (timing : Timing) (state : MachineState) (end : ℕ) (arrival : Option Arrival) (a : events.Arrival)
    → IsNext image system timing state (undue system state end arrival) (Arrive a) → ⊥
not_undue image system timing state end arrival a = no_take image system timing state end arrival (position (λ pending. pending) state.pending) a

-- the source is that of the listed arrival
record IsListed (system : System) (listed : Option Arrival) (source : ℕ) : Type 0 where
  arrival : Arrival
  there : listed ≡ Some arrival
  source_is : source ≡ number_of system arrival.source

arrives_listed : (image : ImageData) (system : System) (timing : Timing) (state : MachineState) (end : ℕ) (listed : Option Arrival) (a : events.Arrival)
    → IsNext image system timing state (arriving system state end listed) (Arrive a) → IsListed system listed a.source
arrives_listed image system timing state end None a = λ is. absurd (not_undue image system timing state end None a is)
arrives_listed image system timing state end (Some arrival) a =
    cond_both (is_due state arrival) _ _ (λ n. IsNext image system timing state n (Arrive a) → IsListed system (Some arrival) a.source)
    (λ due is. record { arrival = arrival; there = refl; source_is = is.0 })
    (λ isnt is. absurd (not_undue image system timing state end (Some arrival) a is))

next_listed : (image : ImageData) (system : System) (timing : Timing) (schedule : Schedule) (made : ℕ) (state : MachineState) (a : events.Arrival)
    → IsNext image system timing state (next_of system schedule made state) (Arrive a) → IsListed system (slice_get schedule.arrivals made) a.source
next_listed image system timing schedule made state a =
    cond_both (nat_le schedule.end state.moment) _ _ (λ n. IsNext image system timing state n (Arrive a) → IsListed system (slice_get schedule.arrivals made) a.source)
    (λ stopped is. absurd is) (λ early. arrives_listed image system timing state schedule.end (slice_get schedule.arrivals made) a)

-- ---- The schedule lists each alarm by its number

listed_at : (from count place : ℕ) (arrival : Arrival) → slice_get (map arrival_of (range_with_len from count)) place ≡ Some arrival → arrival ≡ arrival_of (from + place)
listed_at from zero place arrival there = absurd (none-some arrival there)
listed_at from (suc count) zero arrival there = sym (same_Some (arrival_of from) arrival there) ∙ ap arrival_of (omega arith)
listed_at from (suc count) (suc place) arrival there = listed_at (from + 1) count place arrival there ∙ ap arrival_of (omega arith)

-- so many arrivals have been made when the source of that number arrives
arrives_by_number : (image : ImageData) (system : System) (timing : Timing) (count made : ℕ) (before : MachineState) (a : events.Arrival)
    → IsNext image system timing before (next_of system (the_schedule count) made before) (Arrive a) → a.source ≡ made
arrives_by_number image system timing count made before a is =
    let found = next_listed image system timing (the_schedule count) made before a is in
    let number : number_of system found.arrival.source ≡ 0 + made =
    ap (λ (arrival : Arrival). number_of system arrival.source) (listed_at 0 count made found.arrival found.there) in
    omega (arith, found.source_is, number)

-- ---- Who has arrived

arrivals_other : (a : events.Arrival) (source : ℕ) (earlier : List Event) → (a.source ≡ source → ⊥)
    → arrivals_of source (Arrive a ∷ earlier) ≡ arrivals_of source earlier
arrivals_other a source earlier other = rw (ne_eqb a.source source other) refl

-- a source whose number is no less than the number of arrivals hasn't arrived
not_arrived : (image : ImageData) (system : System) (timing : Timing) (count : ℕ) (events : List Event) (state : MachineState)
    → IsPlayed image system timing (the_schedule count) events state → (source : ℕ) → arrivals_made events ≤ source → arrivals_of source events ≡ []
not_arrived image system timing count [] state played source high = refl
not_arrived image system timing count (Arrive a ∷ earlier) state played source high =
    let is = arrives_by_number image system timing count (arrivals_made earlier) played.0 a played.2.next in
    arrivals_other a source earlier (λ same. omega (arith, is, same, high))
    ∙ not_arrived image system timing count earlier played.0 played.1 source (omega (arith, high))
not_arrived image system timing count (Take t ∷ earlier) state played source high = not_arrived image system timing count earlier played.0 played.1 source high
not_arrived image system timing count (Execute e ∷ earlier) state played source high = not_arrived image system timing count earlier played.0 played.1 source high
not_arrived image system timing count (Serve c ∷ earlier) state played source high = not_arrived image system timing count earlier played.0 played.1 source high
not_arrived image system timing count (Idle cycles ∷ earlier) state played source high = not_arrived image system timing count earlier played.0 played.1 source high

first_in_time : (system : System) (timing : Timing) (source moment : ℕ) (others : List ℕ) → others ≡ [] → IsInTime system timing source moment others
first_in_time system timing source moment [] none = record { apart = tt; once = λ shot. refl }
first_in_time system timing source moment (other ∷ others) none = absurd cc

-- each arrival is the first one of its source
pub arrives_in_time : (image : ImageData) (system : System) (timing : Timing) (count : ℕ) (a : events.Arrival) (earlier : List Event) (state : MachineState)
    → IsPlayed image system timing (the_schedule count) (Arrive a ∷ earlier) state → IsInTime system timing a.source a.moment (arrivals_of a.source earlier)
arrives_in_time image system timing count a earlier state played =
    let is = arrives_by_number image system timing count (arrivals_made earlier) played.0 a played.2.next in
    first_in_time system timing a.source a.moment (arrivals_of a.source earlier)
    (not_arrived image system timing count earlier played.0 played.1 a.source (omega (arith, is)))
