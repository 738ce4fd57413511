-- What is recorded while a run is played.
use Rattle.std.proofs.Common.{◌≡◌, ℕ, suc, ◌+◌, ◌^◌, ◌<◌, ◌≤◌, nat_lt, Bool, true, false, cond, List, [], ◌∷◌, ◌++◌, length, Option, Some, None, Result, Ok, Err, refl, sym, ◌∙◌, ap, ap₂, subst, arith, append-nil}
use Rattle.std.specs.Prelude.{option_to_list}
use Rattle.std.proofs.lemmas.Bool.{ltb-true, ltb-false}
use Rattle.std.proofs.lemmas.List.{length-append}
use Rattle.listed.specs.declared.fault.Fault.{Fault}
use Rattle.listed.specs.declared.fault.Fault.TheVariants.{Kind}
use Rattle.oil_model.specs.declared.system.System.{System}
use Rattle.osek_kernel.specs.Contexts.{IsContext}
use Rattle.osek_machine.specs.Events.{Event, ServiceCall, Arrive, Take, Execute, Serve, Idle, duration}
use Rattle.osek_machine.proofs.Kept.{running_exists}
use Rattle.wcet_atomic_blocks.specs.Plants.{PlantData, IsPlant}
use Rattle.replay.specs.declared.player.Player.{Player}
use Rattle.replay.specs.declared.response.PlayKind.{PlayKind}
use Rattle.replay.specs.declared.schedule.Schedule.{Schedule}
use Rattle.replay.specs.declared.turn.Turn.{Turn}
use Rattle.replay.specs.declared.turn.Turn.TheVariants as turns
use Rattle.replay.specs.Play.{PlaysUpTo}
use Rattle.replay.specs.Tells.{Tells}
use Rattle.replay.specs.Turning as turning
use Rattle.replay.specs.Turning.{IsBroken, Stands}
use Rattle.trace_check.specs.declared.trace.Event.{Event as TraceEvent}
use Rattle.trace_check.specs.declared.trace.Trace.{Trace}
use Rattle.trace_record.specs.declared.fault.RecordKind.{RecordKind}
use Rattle.trace_record.specs.declared.fault.RecordKind.TheVariants.{Events}
use Rattle.trace_record.specs.declared.recorder.Recorder.{Recorder}
use Rattle.trace_record.specs.Recording.{recorded_in, recorded_of}
use Rattle.trace_record.specs.Recorded.{RecordGives, most_events}
use Rattle.trace_record.specs.Working.Recorder.{Adds, HasEnded, HasRecorded, HasRoom, IsAfter, NoteGives, ServesContext, TurnGives, ends_at, finished, kept_with, noted}
use Rattle.trace_record.proofs.Active.{room_in}
use Rattle.trace_record.proofs.Playing.{played_run}

-- ---- A turn tells what is recorded

-- the turn's part of the recording is the step's, and so is its end
record IsTold (system : System) (event : Event) (earlier : List Event) (turn : Turn) : Type 0 where
  more : noted system turn ≡ recorded_of system event earlier
  end : ends_at turn (duration earlier) ≡ duration (event ∷ earlier)

is_told : (system : System) (event : Event) (earlier : List Event) (turn : Turn) → Tells event earlier turn → IsTold system event earlier turn
is_told system (Arrive a) earlier turns.Done tells = absurd tells
is_told system (Arrive a) earlier (turns.Arrive source moment) tells = record { more = cc; end = omega arith }
is_told system (Arrive a) earlier (turns.Take source start end) tells = absurd tells
is_told system (Arrive a) earlier (turns.Insn start end) tells = absurd tells
is_told system (Arrive a) earlier (turns.Service context sites address start end) tells = absurd tells
is_told system (Arrive a) earlier (turns.Idle end) tells = absurd tells
is_told system (Take t) earlier turns.Done tells = absurd tells
is_told system (Take t) earlier (turns.Arrive source moment) tells = absurd tells
is_told system (Take t) earlier (turns.Take source start end) tells = record { more = cc; end = tells.2 }
is_told system (Take t) earlier (turns.Insn start end) tells = absurd tells
is_told system (Take t) earlier (turns.Service context sites address start end) tells = absurd tells
is_told system (Take t) earlier (turns.Idle end) tells = absurd tells
is_told system (Execute e) earlier turns.Done tells = absurd tells
is_told system (Execute e) earlier (turns.Arrive source moment) tells = absurd tells
is_told system (Execute e) earlier (turns.Take source start end) tells = absurd tells
is_told system (Execute e) earlier (turns.Insn start end) tells = record { more = refl; end = tells.1 }
is_told system (Execute e) earlier (turns.Service context sites address start end) tells = absurd tells
is_told system (Execute e) earlier (turns.Idle end) tells = absurd tells
is_told system (Serve c) earlier turns.Done tells = absurd tells
is_told system (Serve c) earlier (turns.Arrive source moment) tells = absurd tells
is_told system (Serve c) earlier (turns.Take source start end) tells = absurd tells
is_told system (Serve c) earlier (turns.Insn start end) tells = absurd tells
is_told system (Serve c) earlier (turns.Service context sites address start end) tells = record { more = cc; end = tells.4 }
is_told system (Serve c) earlier (turns.Idle end) tells = absurd tells
is_told system (Idle cycles) earlier turns.Done tells = absurd tells
is_told system (Idle cycles) earlier (turns.Arrive source moment) tells = absurd tells
is_told system (Idle cycles) earlier (turns.Take source start end) tells = absurd tells
is_told system (Idle cycles) earlier (turns.Insn start end) tells = absurd tells
is_told system (Idle cycles) earlier (turns.Service context sites address start end) tells = absurd tells
is_told system (Idle cycles) earlier (turns.Idle end) tells = record { more = refl; end = tells }

-- ---- One step more is recorded

recorded_few : (system : System) (events : List Event) → length (recorded_in system events) ≤ length events
recorded_few system [] = omega arith
recorded_few system (event ∷ earlier) =
    let before = recorded_few system earlier in
    let joined = length-append (recorded_in system earlier) (option_to_list (recorded_of system event earlier)) in
    let one = at_most_one (recorded_of system event earlier) in omega arith
  where
    at_most_one : (o : Option TraceEvent) → length (option_to_list o) ≤ 1
    at_most_one None = omega arith
    at_most_one (Some e) = omega arith

kept_on : (system : System) (event : Event) (earlier : List Event) (before after : Recorder) (more : Option TraceEvent)
    → more ≡ recorded_of system event earlier → HasRecorded system earlier before
    → after.count ≡ before.count + length (option_to_list more) → after.events ≡ kept_with before.count before.events more
    → after.count ≤ most_events → after.events ≡ recorded_in system (event ∷ earlier)
kept_on system event earlier before after more told was count events few = by (nat_lt before.count most_events) refl
  where
    joined : before.count ≤ most_events → before.events ++ option_to_list more ≡ recorded_in system (event ∷ earlier)
    joined within = ap₂ (λ xs o. xs ++ option_to_list o) (was.kept within) told

    by : (b : Bool) → nat_lt before.count most_events ≡ b → after.events ≡ recorded_in system (event ∷ earlier)
    by true is =
        let below = ltb-true before.count most_events is in
        events ∙ (ap (λ b. cond b (before.events ++ option_to_list more) before.events) is ∙ joined (omega arith))
    by false is = full more refl
      where
        full : (o : Option TraceEvent) → more ≡ o → after.events ≡ recorded_in system (event ∷ earlier)
        full None none =
            let most = ltb-false before.count most_events is in
            let same : length (option_to_list more) ≡ 0 = ap (λ x. length (option_to_list x)) none in
            events ∙ (ap (λ b. cond b (before.events ++ option_to_list more) before.events) is
            ∙ (sym (append-nil before.events) ∙ (ap (λ x. before.events ++ option_to_list x) (sym none) ∙ joined (omega arith))))
        full (Some e) one =
            let most = ltb-false before.count most_events is in
            let same : length (option_to_list more) ≡ 1 = ap (λ x. length (option_to_list x)) one in absurd (omega arith)

recorded_on : (system : System) (event : Event) (earlier : List Event) (turn : Turn) (before after : Recorder) → Tells event earlier turn
    → HasRecorded system earlier before → Adds (noted system turn) (ends_at turn before.end) before after → HasRecorded system (event ∷ earlier) after
recorded_on system event earlier turn before after tells was adds =
    let told = is_told system event earlier turn tells in
    let joined = length-append (recorded_in system earlier) (option_to_list (recorded_of system event earlier)) in
    let more : length (option_to_list (noted system turn)) ≡ length (option_to_list (recorded_of system event earlier)) =
    ap (λ o. length (option_to_list o)) told.more in
    let count = adds.count in let counted = was.count in
    record {
      count = omega arith;
      end_is = adds.end_is ∙ (ap (ends_at turn) was.end_is ∙ told.end);
      kept = kept_on system event earlier before after (noted system turn) told.more was adds.count adds.events;
    }

-- ---- Runs that are played

caller_exists : (plant : PlantData) (schedule : Schedule) (call : ServiceCall) (events : List Event) → IsPlant plant
    → turning.HasPlayed plant schedule (Serve call ∷ events) → IsContext plant.system call.caller
caller_exists plant schedule call events is played =
    let before = played.played.0 in
    running_exists plant.system before call.caller
    (room_in plant is schedule.mode events before (played_run plant.image plant.system plant.timing schedule events before played.played.1))
    played.played.2.step.running

serves : (plant : PlantData) (schedule : Schedule) (event : Event) (events : List Event) (turn : Turn) → IsPlant plant
    → turning.HasPlayed plant schedule (event ∷ events) → Tells event events turn → ServesContext plant.system turn
serves plant schedule (Serve call) events (turns.Service context sites address start end) is played tells =
    subst (IsContext plant.system) (sym tells.0) (caller_exists plant schedule call events is played)
serves plant schedule (Arrive a) events (turns.Service context sites address start end) is played tells = absurd tells
serves plant schedule (Take t) events (turns.Service context sites address start end) is played tells = absurd tells
serves plant schedule (Execute e) events (turns.Service context sites address start end) is played tells = absurd tells
serves plant schedule (Idle cycles) events (turns.Service context sites address start end) is played tells = absurd tells
serves plant schedule event events turns.Done is played tells = tt
serves plant schedule event events (turns.Arrive source moment) is played tells = tt
serves plant schedule event events (turns.Take source start end) is played tells = tt
serves plant schedule event events (turns.Insn start end) is played tells = tt
serves plant schedule event events (turns.Idle end) is played tells = tt

-- ---- What a turn gives

-- the run's end, or the step that the turn tells
went_on : (plant : PlantData) (schedule : Schedule) (events : List Event) (before after : Player) (turn : Turn)
    → turning.TurnGives plant schedule events before after (Ok turn) → (P : Turn → Type 0)
    → (turning.IsDone plant schedule events → after ≡ before → P turns.Done)
    → ((t : Turn) → turning.GoesOn plant schedule events after t → P t) → P turn
went_on plant schedule events before after turns.Done gives P done goes = done gives.0 gives.1
went_on plant schedule events before after (turns.Arrive source moment) gives P done goes = goes (turns.Arrive source moment) gives
went_on plant schedule events before after (turns.Take source start end) gives P done goes = goes (turns.Take source start end) gives
went_on plant schedule events before after (turns.Insn start end) gives P done goes = goes (turns.Insn start end) gives
went_on plant schedule events before after (turns.Service c sites address start end) gives P done goes =
    goes (turns.Service c sites address start end) gives
went_on plant schedule events before after (turns.Idle end) gives P done goes = goes (turns.Idle end) gives

-- a turn that tells a step isn't the last one
tells_some : (event : Event) (earlier : List Event) → Tells event earlier turns.Done → ⊥
tells_some (Arrive a) earlier tells = tells
tells_some (Take t) earlier tells = tells
tells_some (Execute e) earlier tells = tells
tells_some (Serve c) earlier tells = tells
tells_some (Idle cycles) earlier tells = tells

pub serves_context : (plant : PlantData) (schedule : Schedule) (events : List Event) (before after : Player) (turn : Turn) → IsPlant plant
    → turning.TurnGives plant schedule events before after (Ok turn) → ServesContext plant.system turn
serves_context plant schedule events before after turn is gives =
    went_on plant schedule events before after turn gives (ServesContext plant.system) (λ done same. tt)
    (λ t goes. serves plant schedule goes.event events t is goes.stands.played goes.tells)

room_if : (count made : ℕ) (turn : Turn) → count < made → HasRoom count made turn
room_if count made turns.Done less = tt
room_if count made (turns.Arrive source moment) less = less
room_if count made (turns.Take source start end) less = less
room_if count made (turns.Insn start end) less = less
room_if count made (turns.Service c sites address start end) less = less
room_if count made (turns.Idle end) less = less

-- how many steps a player has made, as it tells them
abbrev TellsMade : Player → ℕ → Type 0
TellsMade player made = (plant : PlantData) (schedule : Schedule) (events : List Event) → Stands plant schedule events player → made ≡ length events

pub has_room : (plant : PlantData) (schedule : Schedule) (events : List Event) (before after : Player) (turn : Turn) (recorder : Recorder) (made : ℕ)
    → turning.TurnGives plant schedule events before after (Ok turn) → TellsMade after made → HasRecorded plant.system events recorder
    → HasRoom recorder.count made turn
has_room plant schedule events before after turn recorder made gives tells was =
    went_on plant schedule events before after turn gives (HasRoom recorder.count made) (λ done same. tt)
    (λ t goes. room_if recorder.count made t (fewer (goes.event ∷ events) (tells plant schedule (goes.event ∷ events) goes.stands) refl))
  where
    fewer : (more : List Event) → made ≡ length more → length more ≡ suc (length events) → recorder.count < made
    fewer more is longer = (let count = was.count in let few = recorded_few plant.system events in omega arith)

-- what a note adds
note_adds : (system : System) (event : Event) (earlier : List Event) (turn : Turn) (before after : Recorder) (went : Bool) → Tells event earlier turn
    → NoteGives system turn before after (Ok went) → (went ≡ true) × Adds (noted system turn) (ends_at turn before.end) before after
note_adds system event earlier turns.Done before after went tells gives = absurd (tells_some event earlier tells)
note_adds system event earlier (turns.Arrive source moment) before after went tells gives = gives
note_adds system event earlier (turns.Take source start end) before after went tells gives = gives
note_adds system event earlier (turns.Insn start end) before after went tells gives = gives
note_adds system event earlier (turns.Service c sites address start end) before after went tells gives = gives
note_adds system event earlier (turns.Idle end) before after went tells gives = gives

pub turn_gives : (plant : PlantData) (schedule : Schedule) (events : List Event) (before after : Player) (turn : Turn) (was now : Recorder) (went : Bool)
    (made : ℕ) → turning.TurnGives plant schedule events before after (Ok turn) → IsAfter plant schedule events before was
    → TellsMade after made → made < 2 ^ 64 → NoteGives plant.system turn was now (Ok went) → TurnGives plant schedule events after now (Ok went)
turn_gives plant schedule events before after turn was now went made gives stood tells fits notes =
    went_on plant schedule events before after turn gives
    (λ t. NoteGives plant.system t was now (Ok went) → TurnGives plant schedule events after now (Ok went)) ended goes_on notes
  where
    ended : turning.IsDone plant schedule events → after ≡ before → (went ≡ false) × (now ≡ was) → TurnGives plant schedule events after now (Ok went)
    ended done same stopped = subst (λ (w : Bool). TurnGives plant schedule events after now (Ok w)) (sym stopped.0) (record {
      after = subst (λ (p : Player). IsAfter plant schedule events p now) (sym same)
          (subst (IsAfter plant schedule events before) (sym stopped.1) stood);
      done = done;
    })

    goes_on : (t : Turn) → turning.GoesOn plant schedule events after t → NoteGives plant.system t was now (Ok went)
        → TurnGives plant schedule events after now (Ok went)
    goes_on t goes note =
        let adds = note_adds plant.system goes.event events t was now went goes.tells note in
        let steps = tells plant schedule (goes.event ∷ events) goes.stands in
        let counted = goes.stands.made in
        subst (λ (w : Bool). TurnGives plant schedule events after now (Ok w)) (sym adds.0) (record {
          event = goes.event;
          after = record {
            stands = goes.stands;
            recorded = recorded_on plant.system goes.event events t was now goes.tells stood.recorded adds.1;
          };
          few = omega arith;
        })

-- ---- The answers

pub plays_up_to : (plant : PlantData) (schedule : Schedule) (events : List Event) (player : Player) (fault : PlayKind) → Stands plant schedule events player
    → IsBroken plant schedule events fault → PlaysUpTo plant.image plant.system plant.timing schedule fault
plays_up_to plant schedule events player fault stands broken = record {
  event = broken.event;
  earlier = events;
  state = broken.played.state;
  played = broken.played.played;
  declared = stands.declared;
  clean = stands.clean;
  breaks = broken.breaks;
}

pub record_gives : (plant : PlantData) (schedule : Schedule) (events : List Event) (player : Player) (recorder : Recorder)
    (answer : Result Trace (Fault RecordKind)) → HasEnded plant schedule events player recorder → answer ≡ finished schedule.mode recorder
    → RecordGives plant schedule answer
record_gives plant schedule events player recorder answer ended is =
    subst (RecordGives plant schedule) (sym is) (by (nat_lt most_events recorder.count) refl)
  where
    by : (b : Bool) → nat_lt most_events recorder.count ≡ b → RecordGives plant schedule (cond b (Err (Kind (Events recorder.count)))
        (Ok (record { mode = schedule.mode; end = recorder.end; events = recorder.events })))
    by true many = record {
      events = events;
      plays = record {
        state = ended.done.state;
        played = ended.done.played;
        stopped = ended.done.stopped;
        declared = ended.after.stands.declared;
        clean = ended.after.stands.clean;
      };
      counted = ended.after.recorded.count;
      many = ltb-true most_events recorder.count many;
    }
    by false few =
        let most = ltb-false most_events recorder.count few in
        let counted = ended.after.recorded.count in
        record {
          events = events;
          plays = record {
            state = ended.done.state;
            played = ended.done.played;
            stopped = ended.done.stopped;
            declared = ended.after.stands.declared;
            clean = ended.after.stands.clean;
          };
          few = omega arith;
          told = ap₂ (λ n xs. record { mode = schedule.mode; end = n; events = xs }) ended.after.recorded.end_is (ended.after.recorded.kept most);
        }
