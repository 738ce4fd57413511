-- The responses of a run, as they are added while it is played.
use Rattle.std.proofs.Common.{◌≡◌, ℕ, zero, suc, ◌+◌, ◌^◌, ◌<◌, ◌≤◌, false, List, [], ◌∷◌, ◌++◌, length, map, reverse, Option, Some, None, Ok, refl, sym, ◌∙◌, ap, arith, append_assoc}
use Rattle.std.proofs.lemmas.List.{map-append, reverse-append}
use Rattle.std.specs.Prelude.{filter_map, option_map, option_to_list}
use Rattle.std.specs.List.{cons_option, range_with_len}
use Rattle.std.proofs.lemmas.List.Elements.{filter_map-append}
use Rattle.osek_machine.specs.Activations.{Activation, active_since, ended_in, ended_now, lasting, open_in}
use Rattle.osek_machine.specs.Events.{Event, duration, ended_by}
use Rattle.osek_machine.specs.Machine.{state_of}
use Rattle.wcet_atomic_blocks.specs.Plants.{PlantData}
use Rattle.replay.specs.declared.player.Player.{Player}
use Rattle.replay.specs.declared.response.PlayKind.{PlayKind}
use Rattle.replay.specs.declared.response.Response.{Response}
use Rattle.replay.specs.declared.schedule.Schedule.{Schedule}
use Rattle.replay.specs.Play.{PlaysUpTo, PlaysWhole, response_of}
use Rattle.replay.specs.declared.turn.Turn.{Turn}
use Rattle.replay.specs.declared.turn.Turn.TheVariants as turns
use Rattle.replay.specs.Turning.{IsBroken, Stands, TurnGives, response_now}
use Rattle.replay.specs.Working.Rounds.{AdvanceGives, HasEnded, ended_responses, open_at, open_response, open_responses, is_step}
use Rattle.replay.specs.Working.Turns.{FollowsPlant}
use Rattle.replay.proofs.Following.{now}
use Rattle.replay.proofs.Turns.{follows_in}

-- ---- Ended activations

reverse-option : {A : Type 0} (o : Option A) → reverse (option_to_list o) ≡ option_to_list o
reverse-option None = refl
reverse-option (Some x) = refl

map-option : (o : Option Activation) → map response_of (option_to_list o) ≡ option_to_list (option_map response_of o)
map-option None = refl
map-option (Some a) = refl

one_ended : (plant : PlantData) (schedule : Schedule) (event : Event) (events : List Event)
    → ended_responses plant schedule (event ∷ events) ≡ ended_responses plant schedule events ++ option_to_list (response_now plant schedule event events)
one_ended plant schedule event events =
    let newest : Option Activation = ended_now plant.system schedule.mode (ended_by event) event events in
    let others : List Activation = ended_in plant.system schedule.mode events in
    ap (map response_of) (reverse-append (option_to_list newest) others ∙ ap (λ xs. reverse others ++ xs) (reverse-option newest))
    ∙ (map-append response_of (reverse others) (option_to_list newest) ∙ ap (λ xs. map response_of (reverse others) ++ xs) (map-option newest))

pub told_on : (plant : PlantData) (schedule : Schedule) (event : Event) (events : List Event) (old new : List Response) (ended : Option Response)
    → old ≡ ended_responses plant schedule events → ended ≡ response_now plant schedule event events → new ≡ old ++ option_to_list ended
    → new ≡ ended_responses plant schedule (event ∷ events)
told_on plant schedule event events old new ended was now is =
    is ∙ (ap (λ xs. xs ++ option_to_list ended) was ∙ (ap (λ o. ended_responses plant schedule events ++ option_to_list o) now ∙ sym (one_ended plant schedule event events)))

-- ---- Open activations

range_more : (a n : ℕ) → range_with_len a (suc n) ≡ range_with_len a n ++ (a + n) ∷ []
range_more a zero = ap (λ x. x ∷ []) (omega arith)
range_more a (suc n) = ap (λ xs. a ∷ xs) (range_more (a + 1) n ∙ ap (λ x. range_with_len (a + 1) n ++ x ∷ []) (omega arith))

filter_map-one : {A : Type 0} (f : ℕ → Option A) (n : ℕ) → filter_map f (n ∷ []) ≡ option_to_list (f n)
filter_map-one {A = A} f n = single (f n)
  where
    single : (o : Option A) → cons_option o [] ≡ option_to_list o
    single None = refl
    single (Some x) = refl

pub open_more : (moment : ℕ) (active : List (Option ℕ)) (first old new : List Response) (n : ℕ) (response : Option Response)
    → old ≡ first ++ filter_map (open_at moment active) (range_with_len 0 n) → response ≡ open_at moment active n → new ≡ old ++ option_to_list response
    → new ≡ first ++ filter_map (open_at moment active) (range_with_len 0 (n + 1))
open_more moment active first old new n response was at is =
    is ∙ (ap (λ xs. xs ++ option_to_list response) was
    ∙ (append_assoc first (filter_map (open_at moment active) (range_with_len 0 n)) (option_to_list response)
    ∙ ap (λ xs. first ++ xs) (
    ap (λ o. filter_map (open_at moment active) (range_with_len 0 n) ++ option_to_list o) at
    ∙ (ap (λ xs. filter_map (open_at moment active) (range_with_len 0 n) ++ xs) (sym (filter_map-one (open_at moment active) n))
    ∙ (sym (filter_map-append (open_at moment active) (range_with_len 0 n) (n ∷ []))
    ∙ ap (filter_map (open_at moment active)) (ap (λ x. range_with_len 0 n ++ x ∷ []) (zero_more n) ∙ (sym (range_more 0 n) ∙ ap (range_with_len 0) (one_more n))))))))
  where
    zero_more : (k : ℕ) → k ≡ 0 + k
    zero_more k = omega arith

    one_more : (k : ℕ) → suc k ≡ k + 1
    one_more k = omega arith

cons-map : (o : Option Activation) (xs : List Activation) → cons_option (option_map response_of o) (map response_of xs) ≡ map response_of (cons_option o xs)
cons-map None xs = refl
cons-map (Some a) xs = refl

agree : (f : ℕ → Option Response) (g : ℕ → Option Activation) (a n : ℕ) → ((t : ℕ) → a ≤ t → t < a + n → f t ≡ option_map response_of (g t))
    → filter_map f (range_with_len a n) ≡ map response_of (filter_map g (range_with_len a n))
agree f g a zero same = refl
agree f g a (suc n) same =
    ap (λ o. cons_option o (filter_map f (range_with_len (a + 1) n))) (same a (omega arith) (omega arith))
    ∙ (ap (cons_option (option_map response_of (g a))) (agree f g (a + 1) n (λ t low high. same t (omega arith) (omega arith)))
    ∙ cons-map (g a) (filter_map g (range_with_len (a + 1) n)))

open-lasts : (task moment : ℕ) (events : List Event) (since : Option ℕ) → moment ≡ duration events
    → option_map (open_response moment task) since ≡ option_map response_of (option_map (lasting task false events) since)
open-lasts task moment events None is = refl
open-lasts task moment events (Some start) is = ap (λ (n : ℕ). Some (open_response n task start)) is

open_are : (plant : PlantData) (schedule : Schedule) (events : List Event) (player : Player) → FollowsPlant plant schedule events player
    → open_responses (state_of player.machine).moment player.active.items ≡ map response_of (open_in plant.system schedule.mode events)
open_are plant schedule events player follows =
    let moment = (state_of player.machine).moment in
    let active : List (Option ℕ) = player.active.items in
    ap (λ n. filter_map (open_at moment active) (range_with_len 0 n)) follows.active.count
    ∙ agree (open_at moment active) (λ task. option_map (lasting task false events) (active_since plant.system schedule.mode task events)) 0 (length plant.system.tasks)
    (λ t low high. ap (option_map (open_response moment t)) (follows.active.each t (omega arith))
    ∙ open-lasts t moment events (active_since plant.system schedule.mode t events) (now plant.image plant.system plant.timing schedule events player follows))

-- ---- The answers

pub plays_whole : (plant : PlantData) (schedule : Schedule) (player : Player) (before after : List Response) → HasEnded plant schedule player before
    → after ≡ before ++ open_responses (state_of player.machine).moment player.active.items → PlaysWhole plant.image plant.system plant.timing schedule after
plays_whole plant schedule player before after ended is =
    let follows : FollowsPlant plant schedule ended.events player = follows_in plant schedule ended.events player ended.after.sound ended.after.stands in
    record {
      events = ended.events;
      state = ended.done.state;
      played = ended.done.played;
      stopped = ended.done.stopped;
      declared = ended.after.stands.declared;
      clean = ended.after.stands.clean;
      told = is ∙ (ap (λ xs. xs ++ open_responses (state_of player.machine).moment player.active.items) ended.after.told
          ∙ (ap (λ xs. ended_responses plant schedule ended.events ++ xs) (open_are plant schedule ended.events player follows)
          ∙ sym (map-append response_of (reverse (ended_in plant.system schedule.mode ended.events)) (open_in plant.system schedule.mode ended.events))));
    }

pub plays_up_to : (plant : PlantData) (schedule : Schedule) (events : List Event) (player : Player) (fault : PlayKind) → Stands plant schedule events player
    → IsBroken plant schedule events fault → PlaysUpTo plant.image plant.system plant.timing schedule fault
plays_up_to plant schedule events player fault stands broken = record {
  event = broken.event;
  earlier = events;
  state = broken.played.state;
  played = broken.played.played;
  declared = stands.declared;
  clean = stands.clean;
  breaks = broken.breaks;
}

-- a player that has met no fault has made so many steps at most
pub made_most : (plant : PlantData) (schedule : Schedule) (events : List Event) (player : Player) → player.fault ≡ None → Stands plant schedule events player → player.made ≤ 2 ^ 25
made_most plant schedule events player sound stands = (follows_in plant schedule events player sound stands).few.most

pub advance_gives : (plant : PlantData) (schedule : Schedule) (events : List Event) (before after : Player) (turn : Turn)
    → TurnGives plant schedule events before after (Ok turn) → AdvanceGives plant schedule events before after (Ok (is_step turn))
advance_gives plant schedule events before after turns.Done gives = (gives.0, gives.1)
advance_gives plant schedule events before after (turns.Arrive source moment) gives =
    record { event = gives.event; stands = gives.stands; ended = gives.ended; sound = gives.sound }
advance_gives plant schedule events before after (turns.Take source start end) gives =
    record { event = gives.event; stands = gives.stands; ended = gives.ended; sound = gives.sound }
advance_gives plant schedule events before after (turns.Insn start end) gives =
    record { event = gives.event; stands = gives.stands; ended = gives.ended; sound = gives.sound }
advance_gives plant schedule events before after (turns.Service c sites address start end) gives =
    record { event = gives.event; stands = gives.stands; ended = gives.ended; sound = gives.sound }
advance_gives plant schedule events before after (turns.Idle end) gives =
    record { event = gives.event; stands = gives.stands; ended = gives.ended; sound = gives.sound }
