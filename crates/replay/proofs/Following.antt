-- A player that follows a run follows it on after a step that breaks nothing.
use Rattle.std.proofs.Common.{◌≡◌, ℕ, ◌+◌, ◌^◌, ◌≤◌, List, [], ◌∷◌, length, Some, refl, sym, ◌∙◌, ap, subst, arith}
use Rattle.std.specs.Prelude.{slice_get}
use Rattle.std.specs.List.{AllByRecursion}
use Rattle.timing_file.specs.declared.timing.Loop.{Loop}
use Rattle.osek_machine.specs.Loops.{laps_of}
use Rattle.oil_model.specs.declared.system.System.{System}
use Rattle.elf_image.specs.Image.{ImageData}
use Rattle.timing_file.specs.declared.timing.Timing.{Timing}
use Rattle.osek_kernel.specs.declared.source.Source.{Source}
use Rattle.osek_kernel.specs.declared.source.Source.TheVariants as sources
use Rattle.osek_kernel.specs.Sources.{number_of, source_at}
use Rattle.timing_file.specs.Lawful.{IsLawful as IsLawfulTiming}
use Rattle.osek_machine.specs.Events as events
use Rattle.osek_machine.specs.Events.{Event, Arrive, Take, Execute, Serve, Idle, Taking, cycles_of, duration}
use Rattle.osek_machine.specs.State.{MachineState}
use Rattle.osek_machine.specs.Steps.{Step}
use Rattle.osek_machine.specs.Declarations.{IsDeclared, ArrivesInTime, ReturnsPaired, SparesCode, AreWithinBounds, CostsAtMost, take_cost, arrivals_of, IsInTime}
use Rattle.osek_machine.specs.Laws.{Passes}
use Rattle.osek_machine.specs.Machine.{Fits, state_of, taking_of}
use Rattle.osek_machine.proofs.Times.{steps_take_their_time}
use Rattle.graph_runs.specs.Walking.{IsNoMisuse}
use Rattle.replay.specs.declared.player.Player.{Player}
use Rattle.replay.specs.declared.schedule.Arrival.{Arrival}
use Rattle.replay.specs.declared.schedule.Schedule.{Schedule}
use Rattle.replay.specs.declared.next.Next.{Next}
use Rattle.replay.specs.declared.next.Next.TheVariants as next
use Rattle.replay.specs.Lawful.{AreFrom}
use Rattle.replay.specs.Playing.{IsPlayed, IsNext, next_of}
use Rattle.replay.specs.Working.Follows.{AreFew, Follows, KnowsArrivals, KnowsActive, least_pending}
use Rattle.replay.specs.Working.Laps.{AreKept}
use Rattle.replay.specs.Working.Moves.{HasArrived, HasIdled, HasTaken}
use Rattle.replay.proofs.Activity.{knows_active}
use Rattle.replay.proofs.Arriving.{knows_arrival, knows_step}
use Rattle.replay.proofs.Nexts.{IsUndue, arrives_next, takes_next, waits_next}
use Rattle.replay.proofs.Played.{played_stands}

-- ---- The run

pub declared_more : (image : ImageData) (system : System) (timing : Timing) (event : Event) (earlier : List Event)
    → ArrivesInTime system timing event earlier → ReturnsPaired image event → SparesCode image event → AreWithinBounds image timing (event ∷ earlier)
    → CostsAtMost image system timing event → IsDeclared image system timing earlier → IsDeclared image system timing (event ∷ earlier)
declared_more image system timing event earlier arrives returns spares within costs declared = record {
  arrivals = (arrives, declared.arrivals);
  returns = (returns, declared.returns);
  code = (spares, declared.code);
  loops = (within, declared.loops);
  costs = (costs, declared.costs);
}

-- no invocation has gone round at the start
pub none_past : (image : ImageData) (timing : Timing) → AreWithinBounds image timing []
none_past image timing context = all timing.loops
  where
    all : (loops : List Loop) → AllByRecursion (λ declared. AllByRecursion (λ laps. laps ≤ declared.bound) (laps_of image declared context [])) loops
    all [] = tt
    all (l ∷ loops) = ((omega arith, tt), all loops)

pub within_now : (image : ImageData) (system : System) (timing : Timing) (earlier : List Event) → IsDeclared image system timing earlier → AreWithinBounds image timing earlier
within_now image system timing [] declared = none_past image timing
within_now image system timing (event ∷ earlier) declared = declared.loops.0

-- The run with one more step, as it was made.
pub record Goes (image : ImageData) (system : System) (timing : Timing) (schedule : Schedule) (event : Event) (earlier : List Event) (before after : Player) : Type 0 where
  pub step : Step image system event (state_of before.machine) (state_of after.machine)
  pub next : IsNext image system timing (state_of before.machine) (next_of system schedule before.arrivals (state_of before.machine)) event
  pub fits : Fits image system after.machine
  pub clean : IsNoMisuse event
  pub declared : IsDeclared image system timing (event ∷ earlier)
  pub made : after.made ≡ before.made + 1
  pub few : AreFew after.made after.arrivals (state_of after.machine).moment

pub plays_on : (image : ImageData) (system : System) (timing : Timing) (schedule : Schedule) (event : Event) (earlier : List Event) (before : Player) (after : MachineState)
    → Follows image system timing schedule earlier before → Step image system event (state_of before.machine) after
    → IsNext image system timing (state_of before.machine) (next_of system schedule before.arrivals (state_of before.machine)) event
    → IsPlayed image system timing schedule (event ∷ earlier) after
plays_on image system timing schedule event earlier before after follows step next = (
  state_of before.machine,
  follows.run,
  record {
    next = subst (λ (n : ℕ). IsNext image system timing (state_of before.machine) (next_of system schedule n (state_of before.machine)) event) follows.arrivals.made next;
    step = step;
  },
)

pub follows_on : (image : ImageData) (system : System) (timing : Timing) (schedule : Schedule) (event : Event) (earlier : List Event) (before after : Player)
    → Follows image system timing schedule earlier before → Goes image system timing schedule event earlier before after
    → KnowsArrivals system schedule (event ∷ earlier) (state_of after.machine).last_start after.arrivals after.newest.items
    → after.pending ≡ least_pending (state_of after.machine).pending → KnowsActive system schedule.mode (event ∷ earlier) after.active.items
    → AreKept image system timing (event ∷ earlier) after.laps → Follows image system timing schedule (event ∷ earlier) after
follows_on image system timing schedule event earlier before after follows goes arrivals pending active laps = record {
  run = plays_on image system timing schedule event earlier before (state_of after.machine) follows goes.step goes.next;
  fits = goes.fits;
  declared = goes.declared;
  clean = (goes.clean, follows.clean);
  made = (let before_is = follows.made in let after_is = goes.made in omega arith);
  few = goes.few;
  arrivals = arrivals;
  pending = pending;
  active = active;
  laps = laps;
}

-- the moment now is that of the steps
pub now : (image : ImageData) (system : System) (timing : Timing) (schedule : Schedule) (earlier : List Event) (player : Player)
    → Follows image system timing schedule earlier player → (state_of player.machine).moment ≡ duration earlier
now image system timing schedule earlier player follows = (played_stands image system timing schedule earlier (state_of player.machine) follows.run).moment

pub mode_now : (image : ImageData) (system : System) (timing : Timing) (schedule : Schedule) (earlier : List Event) (player : Player)
    → Follows image system timing schedule earlier player → (state_of player.machine).kernel.mode ≡ schedule.mode
mode_now image system timing schedule earlier player follows = (played_stands image system timing schedule earlier (state_of player.machine) follows.run).in_mode

-- ---- An arrival

pub arrival_follows : (image : ImageData) (system : System) (timing : Timing) (schedule : Schedule) (a : events.Arrival) (listed : Arrival) (earlier : List Event) (before after : Player)
    → AreFrom 0 schedule.arrivals → length schedule.arrivals ≤ 65536 → schedule.end ≤ 2 ^ 24
    → next_of system schedule before.arrivals (state_of before.machine) ≡ next.Arrive listed
    → a.source ≡ number_of system listed.source → a.moment ≡ listed.at
    → IsInTime system timing a.source a.moment (arrivals_of a.source earlier) → HasArrived system a before after
    → Follows image system timing schedule earlier before → Follows image system timing schedule (Arrive a ∷ earlier) after
arrival_follows image system timing schedule a listed earlier before after order few end next source moment in_time has follows =
    let comes = arrives_next system schedule before.arrivals (state_of before.machine) listed next in
    let passes : Passes (Arrive a) (state_of before.machine) (state_of after.machine) = steps_take_their_time image system (Arrive a) (state_of before.machine) (state_of after.machine) has.step in
    let time = passes.moment in
    let steps = follows.few.steps in
    let most : before.arrivals ≤ length schedule.arrivals = follows.arrivals.few in
    let made = has.made in let one_more = has.arrivals in let soon = comes.before in
    let start : (state_of after.machine).last_start ≡ (state_of before.machine).last_start = ap (λ (s : MachineState). s.last_start) has.step.becomes in
    let knows : KnowsArrivals system schedule (Arrive a ∷ earlier) (state_of before.machine).last_start (before.arrivals + 1) after.newest.items =
    knows_arrival system schedule earlier (state_of before.machine).last_start before.arrivals before.newest.items after.newest.items a listed order comes.listed moment has.newest follows.arrivals in
    follows_on image system timing schedule (Arrive a) earlier before after follows
    (record {
      step = has.step;
      next = subst (λ (n : Next). IsNext image system timing (state_of before.machine) n (Arrive a)) (sym next) (source, moment);
      fits = has.fits image follows.fits;
      clean = tt;
      declared = declared_more image system timing (Arrive a) earlier in_time tt tt (within_now image system timing earlier follows.declared) tt follows.declared;
      made = has.made;
      few = record { steps = omega arith; most = omega arith };
    })
    (subst (λ (n : ℕ). KnowsArrivals system schedule (Arrive a ∷ earlier) (state_of after.machine).last_start n after.newest.items) (sym has.arrivals)
    (subst (λ (n : ℕ). KnowsArrivals system schedule (Arrive a ∷ earlier) n (before.arrivals + 1) after.newest.items) (sym start) knows))
    has.pending
    (knows_active system schedule.mode (duration earlier) (Arrive a) earlier before.active.items after.active.items refl has.active follows.active)
    (subst (AreKept image system timing (Arrive a ∷ earlier)) (sym has.laps) (record { keep = follows.laps.keep }))

-- ---- What comes later stays later

-- the last step that takes time began where nothing was due
pub begun_still : (schedule : Schedule) (before : Player) (start : ℕ) → start ≡ (state_of before.machine).moment
    → IsUndue (state_of before.machine) (slice_get schedule.arrivals before.arrivals)
    → (a : Arrival) → slice_get schedule.arrivals before.arrivals ≡ Some a → start ≤ a.at
begun_still schedule before start is undue a here = let later = undue.later a here in omega arith

-- ---- Time passes

pub wait_follows : (image : ImageData) (system : System) (timing : Timing) (schedule : Schedule) (cycles : ℕ) (earlier : List Event) (before after : Player)
    → length schedule.arrivals ≤ 65536 → schedule.end ≤ 2 ^ 24
    → next_of system schedule before.arrivals (state_of before.machine) ≡ next.Wait cycles → HasIdled system cycles before after
    → Follows image system timing schedule earlier before → Follows image system timing schedule (Idle cycles ∷ earlier) after
wait_follows image system timing schedule cycles earlier before after few end next has follows =
    let comes = waits_next system schedule before.arrivals (state_of before.machine) cycles next in
    let step = has.step image follows.fits in
    let passes : Passes (Idle cycles) (state_of before.machine) (state_of after.machine) = steps_take_their_time image system (Idle cycles) (state_of before.machine) (state_of after.machine) step in
    let time = passes.moment in
    let steps = follows.few.steps in
    let most : before.arrivals ≤ length schedule.arrivals = follows.arrivals.few in
    let made = has.made in let stay = has.arrivals.arrivals in let soon = comes.before in
    let long = comes.cycles_are in let later = comes.undue.later comes.next comes.listed in
    let start : (state_of after.machine).last_start ≡ (state_of before.machine).moment = ap (λ (s : MachineState). s.last_start) step.becomes in
    let pending : (state_of after.machine).pending ≡ (state_of before.machine).pending = ap (λ (s : MachineState). s.pending) step.becomes in
    follows_on image system timing schedule (Idle cycles) earlier before after follows
    (record {
      step = step;
      next = subst (λ (n : Next). IsNext image system timing (state_of before.machine) n (Idle cycles)) (sym next) refl;
      fits = has.fits image follows.fits;
      clean = tt;
      declared = declared_more image system timing (Idle cycles) earlier tt tt tt (within_now image system timing earlier follows.declared) tt follows.declared;
      made = has.made;
      few = record { steps = omega arith; most = omega arith };
    })
    (knows_step system schedule (Idle cycles) earlier (state_of before.machine).last_start (state_of after.machine).last_start before.arrivals after.arrivals before.newest.items after.newest.items
    refl (λ source. refl) (begun_still schedule before (state_of after.machine).last_start start comes.undue) has.arrivals.arrivals has.arrivals.newest follows.arrivals)
    (has.pending ∙ (follows.pending ∙ ap least_pending (sym pending)))
    (knows_active system schedule.mode (duration earlier) (Idle cycles) earlier before.active.items after.active.items refl has.active follows.active)
    (subst (AreKept image system timing (Idle cycles ∷ earlier)) (sym has.laps) (record { keep = follows.laps.keep }))

-- ---- A source is taken

take_lasts : (timing : Timing) (source : Source) → IsLawfulTiming timing → 1 ≤ take_cost timing source
take_lasts timing (sources.Alarm a) lawful = lawful.alarm.0
take_lasts timing (sources.Isr i) lawful = lawful.interrupt.0

pub take_follows : (image : ImageData) (system : System) (timing : Timing) (schedule : Schedule) (source : ℕ) (earlier : List Event) (before after : Player)
    → IsLawfulTiming timing → length schedule.arrivals ≤ 65536 → schedule.end ≤ 2 ^ 24
    → next_of system schedule before.arrivals (state_of before.machine) ≡ next.Take source
    → HasTaken image system timing (taking_of image system source (take_cost timing (source_at system source)) (state_of before.machine)) before after
    → Follows image system timing schedule earlier before
    → Follows image system timing schedule (Take (taking_of image system source (take_cost timing (source_at system source)) (state_of before.machine)) ∷ earlier) after
take_follows image system timing schedule source earlier before after lawful few end next has follows =
    let taking : Taking = taking_of image system source (take_cost timing (source_at system source)) (state_of before.machine) in
    let comes = takes_next system schedule before.arrivals (state_of before.machine) source next in
    let passes : Passes (Take taking) (state_of before.machine) (state_of after.machine) = steps_take_their_time image system (Take taking) (state_of before.machine) (state_of after.machine) has.step in
    let time = passes.moment in
    let steps = follows.few.steps in
    let most : before.arrivals ≤ length schedule.arrivals = follows.arrivals.few in
    let made = has.made in let stay = has.arrivals.arrivals in let soon = comes.before in
    let long = take_lasts timing (source_at system source) lawful in
    let start : (state_of after.machine).last_start ≡ (state_of before.machine).moment = ap (λ (s : MachineState). s.last_start) has.step.becomes in
    let kept = has.laps earlier follows.laps (within_now image system timing earlier follows.declared) in
    follows_on image system timing schedule (Take taking) earlier before after follows
    (record {
      step = has.step;
      next = subst (λ (n : Next). IsNext image system timing (state_of before.machine) n (Take taking)) (sym next) refl;
      fits = has.fits;
      clean = tt;
      declared = declared_more image system timing (Take taking) earlier tt tt tt kept.1 (omega arith) follows.declared;
      made = has.made;
      few = record { steps = omega arith; most = omega arith };
    })
    (knows_step system schedule (Take taking) earlier (state_of before.machine).last_start (state_of after.machine).last_start before.arrivals after.arrivals before.newest.items after.newest.items
    refl (λ source. refl) (begun_still schedule before (state_of after.machine).last_start start comes.undue) has.arrivals.arrivals has.arrivals.newest follows.arrivals)
    has.pending
    (knows_active system schedule.mode (state_of before.machine).moment (Take taking) earlier before.active.items after.active.items
    (now image system timing schedule earlier before follows) has.active follows.active)
    kept.0
