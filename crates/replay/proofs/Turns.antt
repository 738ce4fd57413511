-- The turns of a player.
use Rattle.std.proofs.Common.{◌≡◌, ℕ, zero, suc, ◌+◌, ◌-◌, ◌^◌, ◌<◌, ◌≤◌, Bool, true, false, List, [], ◌∷◌, length, Option, Some, None, Ok, Err, refl, sym, ◌∙◌, ap, subst, arith, get_or}
use Rattle.std.specs.Prelude.{Result, cond, nat_eq, slice_get, slice_index_or, slice_set}
use Rattle.std.specs.Option.{option_map_or}
use Rattle.std.specs.List.{AllByRecursion, list_any}
use Rattle.std.proofs.lemmas.Bool.{lt-ltb, le-ltb, ltb-true, true≢false}
use Rattle.std.proofs.lemmas.List.{get_or_read}
use Rattle.std.proofs.lemmas.Option.{same_Some, none-some, slice_get_within}
use Rattle.listed.specs.declared.fault.Fault.{Fault}
use Rattle.listed.specs.declared.fault.Fault.TheVariants.{Kind, Memory}
use Rattle.oil_model.specs.declared.system.System.{System}
use Rattle.oil_model.specs.declared.system.Alarm.{Alarm}
use Rattle.timing_file.specs.Lawful as timings
use Rattle.osek_kernel.specs.declared.source.Source.{Source}
use Rattle.osek_kernel.specs.declared.source.Source.TheVariants as sources
use Rattle.osek_kernel.specs.Sources.{is_live, is_one_shot, number_of, source_at, source_count}
use Rattle.osek_machine.specs.Events as events
use Rattle.osek_machine.specs.Events.{Event, Arrive, Take, Idle, Taking, cycles_of, duration}
use Rattle.osek_machine.specs.State.{MachineState}
use Rattle.osek_machine.specs.Declarations.{arrivals_of, distance_of, take_cost}
use Rattle.osek_machine.specs.Laws.{Passes}
use Rattle.osek_machine.specs.Machine.{state_of, taking_of}
use Rattle.osek_machine.specs.Room.{IsStateOf}
use Rattle.osek_machine.proofs.Times.{steps_take_their_time}
use Rattle.wcet_atomic_blocks.specs.Plants.{PlantData}
use Rattle.replay.specs.declared.player.Player.{Player}
use Rattle.replay.specs.declared.next.Next.{Next}
use Rattle.replay.specs.declared.next.Next.TheVariants as next
use Rattle.replay.specs.declared.response.PlayKind.{PlayKind}
use Rattle.replay.specs.declared.response.PlayKind.TheVariants.{TooClose}
use Rattle.replay.specs.declared.schedule.Arrival.{Arrival}
use Rattle.replay.specs.declared.schedule.Schedule.{Schedule}
use Rattle.replay.specs.declared.turn.Turn.{Turn}
use Rattle.replay.specs.declared.turn.Turn.TheVariants as turns
use Rattle.replay.specs.Lawful.{ArrivesIn, IsLawful}
use Rattle.replay.specs.Playing.{IsNext, next_of}
use Rattle.replay.specs.Turning.{IsBroken, IsPlayer, Keeps, Stands, TurnGives}
use Rattle.replay.specs.Working.Arrivals.{in_time}
use Rattle.replay.specs.Working.Moves.{HasArrived, HasIdled, HasTaken}
use Rattle.replay.specs.Working.Turns.{FollowsPlant, MoveGives, Moved}
use Rattle.replay.proofs.Arriving.{in_time-false, in_time-true}
use Rattle.replay.proofs.Following.{arrival_follows, mode_now, now, plays_on, take_follows, wait_follows}
use Rattle.replay.proofs.Nexts.{ArrivesNext, arrives_next}

-- ---- Sources that are live

none_modes : (system : System) (mode a : ℕ) (found : Option Alarm) → slice_get system.alarms a ≡ found → is_live system mode (sources.Alarm a) ≡ true → a < length system.alarms
none_modes system mode a None found live = absurd (true≢false (sym live ∙ ap (λ (o : Option Alarm). list_any (nat_eq mode) (option_map_or (λ alarm. alarm.modes) o [])) found))
none_modes system mode a (Some alarm) found live = slice_get_within system.alarms a alarm found

-- a source that is live exists, and its number is its own
pub record IsThere (system : System) (source : Source) : Type 0 where
  pub within : number_of system source < source_count system
  pub again : source_at system (number_of system source) ≡ source

pub live_there : (system : System) (mode : ℕ) (source : Source) → is_live system mode source ≡ true → IsThere system source
live_there system mode (sources.Alarm a) live =
    let within : a < length system.alarms = none_modes system mode a (slice_get system.alarms a) refl live in
    record {
      within = omega arith;
      again = ap (λ (b : Bool). cond b (sources.Alarm a) (sources.Isr (a - length system.alarms))) (lt-ltb a (length system.alarms) within);
    }
live_there system mode (sources.Isr i) live =
    let within : i < length system.isrs = ltb-true i (length system.isrs) live in
    record {
      within = omega arith;
      again = ap (λ (b : Bool). cond b (sources.Alarm (length system.alarms + i)) (sources.Isr ((length system.alarms + i) - length system.alarms)))
          (le-ltb (length system.alarms + i) (length system.alarms) (omega arith)) ∙ ap sources.Isr (omega arith);
    }

all_at : {A : Type 0} (P : A → Type 0) (xs : List A) (i : ℕ) (x : A) → AllByRecursion P xs → slice_get xs i ≡ Some x → P x
all_at P [] i x all at = absurd (none-some x at)
all_at P (y ∷ xs) zero x all at = subst P (same_Some y x at) all.0
all_at P (y ∷ xs) (suc i) x all at = all_at P xs i x all.1 at

-- ---- An arrival

-- What holds before a listed arrival is made.
pub record MayArrive (plant : PlantData) (schedule : Schedule) (player : Player) (arrival : Arrival) : Type 0 where
  pub mode : is_live plant.system schedule.mode arrival.source ≡ true
  pub room : IsStateOf plant.system (state_of player.machine)
  pub live : is_live plant.system (state_of player.machine).kernel.mode (source_at plant.system (number_of plant.system arrival.source)) ≡ true
  pub begun : (state_of player.machine).last_start ≤ arrival.at
  pub past : arrival.at ≤ (state_of player.machine).moment
  pub within : number_of plant.system arrival.source < length player.newest.items
  pub few : player.made ≤ 2 ^ 32
  pub listed : player.arrivals ≤ 2 ^ 32

pub may_arrive : (plant : PlantData) (schedule : Schedule) (events : List Event) (player : Player) (arrival : Arrival) → IsLawful plant.system schedule
    → FollowsPlant plant schedule events player → next_of plant.system schedule player.arrivals (state_of player.machine) ≡ next.Arrive arrival
    → MayArrive plant schedule player arrival
may_arrive plant schedule events player arrival lawful follows next =
    let comes : ArrivesNext schedule.end (slice_get schedule.arrivals player.arrivals) (state_of player.machine) arrival =
    arrives_next plant.system schedule player.arrivals (state_of player.machine) arrival next in
    let arrives = all_at (ArrivesIn plant.system schedule.mode) schedule.arrivals player.arrivals arrival lawful.arrivals comes.listed in
    let there : IsThere plant.system arrival.source = live_there plant.system schedule.mode arrival.source arrives.1 in
    let within = there.within in let count : length player.newest.items ≡ source_count plant.system = follows.arrivals.count in
    let few = lawful.few in let made : player.arrivals ≤ length schedule.arrivals = follows.arrivals.few in let most = follows.few.most in
    record {
      mode = arrives.1;
      room = follows.fits.room;
      live = ap (λ (m : ℕ). is_live plant.system m (source_at plant.system (number_of plant.system arrival.source)))
          (mode_now plant.image plant.system plant.timing schedule events player follows)
          ∙ (ap (is_live plant.system schedule.mode) there.again ∙ arrives.1);
      begun = (follows.arrivals.later arrival comes.listed).begun;
      past = comes.due;
      within = omega arith;
      few = omega arith;
      listed = omega arith;
    }

abbrev pub arrival_of : PlantData → Arrival → events.Arrival
arrival_of plant arrival = record { source = number_of plant.system arrival.source; moment = arrival.at }

-- whether the arrival is in time, as it was asked
abbrev pub AsksInTime : PlantData → Player → Arrival → Bool → Type 0
AsksInTime plant player arrival answer =
    answer ≡ in_time (is_one_shot plant.system arrival.source) (distance_of plant.system plant.timing arrival.source) arrival.at
    (slice_index_or player.newest.items (number_of plant.system arrival.source) None)

pub asks_in_time : (plant : PlantData) (player : Player) (arrival : Arrival) (source : ℕ) (newest : Option ℕ) (result answer : Bool) → source ≡ number_of plant.system arrival.source
    → source < length player.newest.items → newest ≡ get_or player.newest.items source newest
    → result ≡ in_time (is_one_shot plant.system arrival.source) (distance_of plant.system plant.timing arrival.source) arrival.at newest → result ≡ answer
    → AsksInTime plant player arrival answer
asks_in_time plant player arrival source newest result answer is within read asked answered =
    sym answered ∙ (asked ∙ ap (in_time (is_one_shot plant.system arrival.source) (distance_of plant.system plant.timing arrival.source) arrival.at)
    (get_or_read player.newest.items source newest within read None ∙ ap (λ (n : ℕ). slice_index_or player.newest.items n None) is))

asked : (plant : PlantData) (schedule : Schedule) (events : List Event) (player : Player) (arrival : Arrival) (answer : Bool) → IsThere plant.system arrival.source
    → FollowsPlant plant schedule events player → AsksInTime plant player arrival answer
    → in_time (is_one_shot plant.system (source_at plant.system (number_of plant.system arrival.source)))
    (distance_of plant.system plant.timing (source_at plant.system (number_of plant.system arrival.source))) arrival.at
    (slice_get (arrivals_of (number_of plant.system arrival.source) events) 0) ≡ answer
asked plant schedule events player arrival answer there follows asks =
    ap (λ (s : Source). in_time (is_one_shot plant.system s) (distance_of plant.system plant.timing s) arrival.at (slice_get (arrivals_of (number_of plant.system arrival.source) events) 0)) there.again
    ∙ sym (asks ∙ ap (in_time (is_one_shot plant.system arrival.source) (distance_of plant.system plant.timing arrival.source) arrival.at)
    (follows.arrivals.each (number_of plant.system arrival.source) there.within))

pub arrives_in_time : (plant : PlantData) (schedule : Schedule) (events : List Event) (before after : Player) (arrival : Arrival) → IsLawful plant.system schedule
    → FollowsPlant plant schedule events before → next_of plant.system schedule before.arrivals (state_of before.machine) ≡ next.Arrive arrival
    → AsksInTime plant before arrival true → HasArrived plant.system (arrival_of plant arrival) before after
    → Moved plant schedule events before after (turns.Arrive (number_of plant.system arrival.source) arrival.at)
arrives_in_time plant schedule events before after arrival lawful follows next asks has =
    let comes : ArrivesNext schedule.end (slice_get schedule.arrivals before.arrivals) (state_of before.machine) arrival =
    arrives_next plant.system schedule before.arrivals (state_of before.machine) arrival next in
    let arrives = all_at (ArrivesIn plant.system schedule.mode) schedule.arrivals before.arrivals arrival lawful.arrivals comes.listed in
    let there : IsThere plant.system arrival.source = live_there plant.system schedule.mode arrival.source arrives.1 in
    record {
      event = Arrive (arrival_of plant arrival);
      tells = (refl, refl);
      follows = arrival_follows plant.image plant.system plant.timing schedule (arrival_of plant arrival) arrival events before after lawful.order lawful.few lawful.end next refl refl
          (in_time-true plant.system plant.timing (number_of plant.system arrival.source) arrival.at (arrivals_of (number_of plant.system arrival.source) events)
          ((follows.arrivals.later arrival comes.listed).descend (number_of plant.system arrival.source))
          (asked plant schedule events before arrival true there follows asks))
          has follows;
      ended = has.ended;
      fault = has.fault;
    }

pub arrives_too_soon : (plant : PlantData) (schedule : Schedule) (events : List Event) (before : Player) (arrival : Arrival) → IsLawful plant.system schedule
    → FollowsPlant plant schedule events before → next_of plant.system schedule before.arrivals (state_of before.machine) ≡ next.Arrive arrival
    → AsksInTime plant before arrival false → IsBroken plant schedule events (TooClose (number_of plant.system arrival.source) arrival.at)
arrives_too_soon plant schedule events before arrival lawful follows next asks =
    let comes : ArrivesNext schedule.end (slice_get schedule.arrivals before.arrivals) (state_of before.machine) arrival =
    arrives_next plant.system schedule before.arrivals (state_of before.machine) arrival next in
    let arrives = all_at (ArrivesIn plant.system schedule.mode) schedule.arrivals before.arrivals arrival lawful.arrivals comes.listed in
    let there : IsThere plant.system arrival.source = live_there plant.system schedule.mode arrival.source arrives.1 in
    let may : MayArrive plant schedule before arrival = may_arrive plant schedule events before arrival lawful follows next in
    let state : MachineState = state_of before.machine in
    let after : MachineState = record state { pending = slice_set state.pending (number_of plant.system arrival.source) true } in
    record {
      event = Arrive (arrival_of plant arrival);
      played = record {
        state = after;
        played = plays_on plant.image plant.system plant.timing schedule (Arrive (arrival_of plant arrival)) events before after follows
            (record { live = may.live; begun = may.begun; past = may.past; becomes = refl })
            (subst (λ (n : Next). IsNext plant.image plant.system plant.timing state n (Arrive (arrival_of plant arrival))) (sym next) (refl, refl));
      };
      breaks = (
        refl,
        refl,
        in_time-false plant.system plant.timing (number_of plant.system arrival.source) arrival.at (arrivals_of (number_of plant.system arrival.source) events)
            (asked plant schedule events before arrival false there follows asks),
      );
    }

-- ---- A source is taken

abbrev pub taking_in : PlantData → ℕ → MachineState → Taking
taking_in plant source state = taking_of plant.image plant.system source (take_cost plant.timing (source_at plant.system source)) state

pub takes_on : (plant : PlantData) (schedule : Schedule) (events : List Event) (before after : Player) (source start end : ℕ) → timings.IsLawful plant.timing → IsLawful plant.system schedule
    → FollowsPlant plant schedule events before → next_of plant.system schedule before.arrivals (state_of before.machine) ≡ next.Take source
    → start ≡ (state_of before.machine).moment → end ≡ (state_of after.machine).moment
    → HasTaken plant.image plant.system plant.timing (taking_in plant source (state_of before.machine)) before after
    → Moved plant schedule events before after (turns.Take source start end)
takes_on plant schedule events before after source start end timed lawful follows next begins ends has =
    let taking : Taking = taking_in plant source (state_of before.machine) in
    let is_now = now plant.image plant.system plant.timing schedule events before follows in
    let passes : Passes (Take taking) (state_of before.machine) (state_of after.machine) =
    steps_take_their_time plant.image plant.system (Take taking) (state_of before.machine) (state_of after.machine) has.step in
    record {
      event = Take taking;
      tells = (refl, begins ∙ is_now, ends ∙ (passes.moment ∙ ap (λ n. n + taking.cycles) is_now));
      follows = take_follows plant.image plant.system plant.timing schedule source events before after timed lawful.few lawful.end next has follows;
      ended = has.ended;
      fault = has.fault;
    }

-- ---- Time passes

pub waits_on : (plant : PlantData) (schedule : Schedule) (events : List Event) (before after : Player) (cycles end : ℕ) → IsLawful plant.system schedule
    → FollowsPlant plant schedule events before → next_of plant.system schedule before.arrivals (state_of before.machine) ≡ next.Wait cycles
    → end ≡ (state_of after.machine).moment → HasIdled plant.system cycles before after → Moved plant schedule events before after (turns.Idle end)
waits_on plant schedule events before after cycles end lawful follows next ends has =
    let is_now = now plant.image plant.system plant.timing schedule events before follows in
    let passes : Passes (Idle cycles) (state_of before.machine) (state_of after.machine) =
    steps_take_their_time plant.image plant.system (Idle cycles) (state_of before.machine) (state_of after.machine) (has.step plant.image follows.fits) in
    record {
      event = Idle cycles;
      tells = ends ∙ (passes.moment ∙ ap (λ n. n + cycles) is_now);
      follows = wait_follows plant.image plant.system plant.timing schedule cycles events before after lawful.few lawful.end next has follows;
      ended = has.ended;
      fault = has.fault;
    }

-- ---- Standing after a turn

pub stands_on : (plant : PlantData) (schedule : Schedule) (events : List Event) (player : Player) → player.fault ≡ None → FollowsPlant plant schedule events player
    → Stands plant schedule events player
stands_on plant schedule events player fault follows = record {
  played = record { state = state_of player.machine; played = follows.run };
  declared = follows.declared;
  clean = follows.clean;
  made = follows.made;
  keeps = subst (Keeps plant schedule events player) (sym fault) follows;
}

pub follows_in : (plant : PlantData) (schedule : Schedule) (events : List Event) (player : Player) → player.fault ≡ None → Stands plant schedule events player
    → FollowsPlant plant schedule events player
follows_in plant schedule events player fault stands = subst (Keeps plant schedule events player) fault stands.keeps

-- a player that has met a fault, and stands where it stood
pub stands_broken : (plant : PlantData) (schedule : Schedule) (events : List Event) (before after : Player) (fault : PlayKind) → FollowsPlant plant schedule events before
    → IsBroken plant schedule events fault → after.made ≡ before.made → after.fault ≡ Some fault → Stands plant schedule events after
stands_broken plant schedule events before after fault follows broken made met = record {
  played = record { state = state_of before.machine; played = follows.run };
  declared = follows.declared;
  clean = follows.clean;
  made = made ∙ follows.made;
  keeps = subst (Keeps plant schedule events after) (sym met) broken;
}

pub turned : (plant : PlantData) (schedule : Schedule) (events : List Event) (before after : Player) (turn : Turn) → before.fault ≡ None → FollowsPlant plant schedule events before
    → MoveGives plant schedule events before after (Ok turn) → TurnGives plant schedule events before after (Ok turn)
turned plant schedule events before after turns.Done sound follows gives = gives
turned plant schedule events before after (turns.Arrive source moment) sound follows gives =
    record { event = gives.event; tells = gives.tells; stands = stands_on plant schedule (gives.event ∷ events) after (gives.fault ∙ sound) gives.follows; ended = gives.ended; sound = gives.fault ∙ sound }
turned plant schedule events before after (turns.Take source start end) sound follows gives =
    record { event = gives.event; tells = gives.tells; stands = stands_on plant schedule (gives.event ∷ events) after (gives.fault ∙ sound) gives.follows; ended = gives.ended; sound = gives.fault ∙ sound }
turned plant schedule events before after (turns.Insn start end) sound follows gives =
    record { event = gives.event; tells = gives.tells; stands = stands_on plant schedule (gives.event ∷ events) after (gives.fault ∙ sound) gives.follows; ended = gives.ended; sound = gives.fault ∙ sound }
turned plant schedule events before after (turns.Service c sites address start end) sound follows gives =
    record { event = gives.event; tells = gives.tells; stands = stands_on plant schedule (gives.event ∷ events) after (gives.fault ∙ sound) gives.follows; ended = gives.ended; sound = gives.fault ∙ sound }
turned plant schedule events before after (turns.Idle end) sound follows gives =
    record { event = gives.event; tells = gives.tells; stands = stands_on plant schedule (gives.event ∷ events) after (gives.fault ∙ sound) gives.follows; ended = gives.ended; sound = gives.fault ∙ sound }

-- the player stands somewhere, whatever a turn gave
pub still_player : (plant : PlantData) (schedule : Schedule) (events : List Event) (before after : Player) (result : Result Turn (Fault PlayKind)) → Stands plant schedule events before
    → TurnGives plant schedule events before after result → IsPlayer plant schedule after
still_player plant schedule events before after (Ok turns.Done) stands gives = (events, subst (Stands plant schedule events) (sym gives.1) stands)
still_player plant schedule events before after (Ok (turns.Arrive source moment)) stands gives = (gives.event ∷ events, gives.stands)
still_player plant schedule events before after (Ok (turns.Take source start end)) stands gives = (gives.event ∷ events, gives.stands)
still_player plant schedule events before after (Ok (turns.Insn start end)) stands gives = (gives.event ∷ events, gives.stands)
still_player plant schedule events before after (Ok (turns.Service c sites address start end)) stands gives = (gives.event ∷ events, gives.stands)
still_player plant schedule events before after (Ok (turns.Idle end)) stands gives = (gives.event ∷ events, gives.stands)
still_player plant schedule events before after (Err (Kind fault)) stands gives = (events, gives.stands)
still_player plant schedule events before after (Err Memory) stands gives = (events, gives.0)
