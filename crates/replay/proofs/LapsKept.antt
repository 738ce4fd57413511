-- The laps that are kept are those of the run: before its first step, and after each kind of step. For `AreKept` before
-- the step there is, after it, `AreKept` again, or `Answers` where a lap may pass its bound.
use Rattle.std.proofs.Common.{◌≡◌, ℕ, zero, suc, ◌^◌, ◌<◌, ◌≤◌, ◌⊎◌, inl, inr, Bool, true, false, cond, List, [], ◌∷◌, length, set, Option, Some, None, refl, sym, ◌∙◌, ap, subst, arith}
use Rattle.std.specs.Prelude.{slice_get, IfSome, ◌&&◌, not, nat_eq, is_none, option_map}
use Rattle.std.specs.List.{AllByRecursion}
use Rattle.std.proofs.lemmas.Bool.{eqb-true}
use Rattle.std.proofs.lemmas.Bool.Decides.{nat_tests}
use Rattle.std.proofs.lemmas.Option.{same_Some, none-some, slice_get_within, get_or_from_slice_get}
use Rattle.oil_model.specs.declared.system.System.{System}
use Rattle.oil_model.specs.System as systems
use Rattle.elf_image.specs.Image.{ImageData}
use Rattle.rv32_machine.specs.declared.turns.Turn.{Turn}
use Rattle.rv32_machine.specs.declared.turns.Turn.TheVariants.{Onward, Branching, Jumping, Calling, Returning, Serving, Indirect, Breaking}
use Rattle.rv32_machine.specs.Execution.{following}
use Rattle.rv32_machine.specs.Code.{insn_at}
use Rattle.rv32_machine.specs.Places.{turn_at}
use Rattle.timing_file.specs.declared.timing.Loop.{Loop}
use Rattle.timing_file.specs.declared.timing.Timing.{Timing}
use Rattle.timing_file.specs.Lawful as timings
use Rattle.osek_kernel.specs.declared.context.Context.{Context}
use Rattle.osek_kernel.specs.declared.context.Context.TheVariants as contexts
use Rattle.osek_kernel.specs.Contexts.{IsContext, place_of, context_count}
use Rattle.osek_machine.specs.Events.{Arrival, Taking, Execution, ServiceCall, Event, Arrive, Take, Execute, Serve, Idle}
use Rattle.osek_machine.specs.Loops.{same_context, is_this, begun, moved_on, innermost, turned, laps_of}
use Rattle.osek_machine.specs.Declarations.{AreWithinBounds}
use Rattle.osek_machine.proofs.Placing.{contexts_apart}
use Rattle.replay.specs.declared.laps.Laps.{Laps}
use Rattle.replay.specs.Working.Table.{Table}
use Rattle.replay.specs.Working.Laps.{laps_in, IsWithin, AreStarted, Changes, Starts, HasServed, Fits, Keep, AreKept, Answers, going_on, starting, turning}
use Rattle.replay.proofs.LapsTables.{same_or_other, fresh_within}
use Rattle.replay.proofs.LapsContexts.{slice_get-set_same, slice_get-set_other, changes_sound, changes_count}

-- ---- Contexts, one or two

same_number : (n : ℕ) → nat_eq n n ≡ true
same_number n = grind (arith, nat_tests)

other_number : (m n : ℕ) (b : Bool) → nat_eq m n ≡ b → (m ≡ n → ⊥) → b ≡ false
other_number m n true e apart = absurd (apart (eqb-true m n e))
other_number m n false e apart = refl

pub same_context-refl : (c : Context) → same_context c c ≡ true
same_context-refl (contexts.Task t) = same_number t
same_context-refl (contexts.Isr i) = same_number i

pub same_context-other : (c d : Context) → (c ≡ d → ⊥) → same_context c d ≡ false
same_context-other (contexts.Task a) (contexts.Task b) apart = other_number a b (nat_eq a b) refl (λ e. apart (ap contexts.Task e))
same_context-other (contexts.Isr a) (contexts.Isr b) apart = other_number a b (nat_eq a b) refl (λ e. apart (ap contexts.Isr e))
same_context-other (contexts.Task a) (contexts.Isr b) apart = refl
same_context-other (contexts.Isr a) (contexts.Task b) apart = refl

one_or_two : (c d : Context) → (c ≡ d) ⊎ (c ≡ d → ⊥)
one_or_two (contexts.Task a) (contexts.Task b) = elim (same_or_other a b) [
  | inl same ↦ inl (ap contexts.Task same)
  | inr other ↦ inr (λ e. other cc)
]
one_or_two (contexts.Isr a) (contexts.Isr b) = elim (same_or_other a b) [
  | inl same ↦ inl (ap contexts.Isr same)
  | inr other ↦ inr (λ e. other cc)
]
one_or_two (contexts.Task a) (contexts.Isr b) = inr (λ e. cc)
one_or_two (contexts.Isr a) (contexts.Task b) = inr (λ e. cc)

-- ---- All loops

each_all : {X : Type 0} (P : X → Type 0) (xs : List X) → ((i : ℕ) (x : X) → slice_get xs i ≡ Some x → P x) → AllByRecursion P xs
each_all P [] each = tt
each_all P (x ∷ xs) each = (each 0 x refl, each_all P xs (λ i y e. each (suc i) y e))

all_each : {X : Type 0} (P : X → Type 0) (xs : List X) → AllByRecursion P xs → (i : ℕ) (x : X) → slice_get xs i ≡ Some x → P x
all_each P [] all i x e = absurd (none-some x e)
all_each P (y ∷ xs) all zero x e = subst P (same_Some y x e) all.0
all_each P (y ∷ xs) all (suc i) x e = all_each P xs all.1 i x e

-- ---- One change

-- what is told after a change of one context
pub record Outcome (told : Loop → Context → List ℕ) (system : System) (loops : List Loop) (tables : List Table) (answer : Bool) : Type 0 where
  pub kept : answer ≡ true → Keep told system loops tables
  pub past : answer ≡ false → ((c : Context) (i : ℕ) (declared : Loop) → slice_get loops i ≡ Some declared → IsWithin declared (told declared c)) → ⊥

true_false : true ≡ false → ⊥
true_false e = cc

-- the changed context has the laps that are told
changed_laps : (told told' : Loop → Context → List ℕ) (change : Loop → List ℕ → List ℕ) (system : System) (loops : List Loop) (context : Context)
    (old new : List Table) (answer : Bool)
    → IsContext system context → Keep told system loops old → (changes : Changes change loops (place_of system context) old new answer)
    → ((declared : Loop) → told' declared context ≡ change declared (told declared context))
    → (i : ℕ) (declared : Loop) → slice_get loops i ≡ Some declared → laps_in changes.after i ≡ told' declared context
changed_laps told told' change system loops context old new answer is keep changes own i declared at =
    changes.changes.each i declared at
    ∙ (ap (change declared) (keep.laps context changes.before is changes.was i declared at) ∙ sym (own declared))

pub change_keeps : (told told' : Loop → Context → List ℕ) (change : Loop → List ℕ → List ℕ) (system : System) (loops : List Loop) (context : Context)
    (old new : List Table) (answer : Bool)
    → IsContext system context → Keep told system loops old → Changes change loops (place_of system context) old new answer
    → ((declared : Loop) → told' declared context ≡ change declared (told declared context))
    → ((c : Context) → (c ≡ context → ⊥) → (declared : Loop) → told' declared c ≡ told declared c)
    → Outcome told' system loops new answer
change_keeps told told' change system loops context old new answer is keep changes own others = record {
  kept = λ within. record {
    count = changes_count change loops place old new answer changes ∙ keep.count;
    sound = changes_sound change loops place old new answer changes within keep.sound;
    laps = λ c t there e i declared at. elim (stands c t there e) [
      | inl here ↦ subst (λ (d : Context). laps_in t i ≡ told' declared d) (sym here.0)
          (subst (λ (u : Table). laps_in u i ≡ told' declared context) here.1 (laps i declared at))
      | inr stood ↦ keep.laps c t there stood.1 i declared at ∙ sym (others c stood.0 declared)
    ];
    deep = λ c t there e declared. elim (stands c t there e) [
      | inl here ↦ subst (λ (d : Context). length (told' declared d) ≡ t.depth) (sym here.0)
          (subst (λ (u : Table). length (told' declared context) ≡ u.depth) here.1
          (ap (λ (xs : List ℕ). length xs) (own declared)
          ∙ changes.changes.deep declared (told declared context) (keep.deep context changes.before is changes.was declared)))
      | inr stood ↦ ap (λ (xs : List ℕ). length xs) (others c stood.0 declared) ∙ keep.deep c t there stood.1 declared
    ];
    within = λ c i declared at. elim (one_or_two c context) [
      | inl same ↦ subst (λ (d : Context). IsWithin declared (told' declared d)) (sym same)
          (subst (IsWithin declared) (laps i declared at) ((changes.answers.0 within).each i declared at))
      | inr other ↦ subst (IsWithin declared) (sym (others c other declared)) (keep.within c i declared at)
    ];
  };
  past = λ over all. true_false (sym (changes.answers.1 (record {
    each = λ i declared at. subst (IsWithin declared) (sym (laps i declared at)) (all context i declared at);
  })) ∙ over);
}
  where
    place : ℕ
    place = place_of system context

    laps : (i : ℕ) (declared : Loop) → slice_get loops i ≡ Some declared → laps_in changes.after i ≡ told' declared context
    laps = changed_laps told told' change system loops context old new answer is keep changes own

    inside : place < length old
    inside = slice_get_within old place changes.before changes.was

    seen : (c : Context) (t : Table) → slice_get new (place_of system c) ≡ Some t → slice_get (set old place changes.after) (place_of system c) ≡ Some t
    seen c t e = ap (λ (ts : List Table). slice_get ts (place_of system c)) (sym changes.becomes) ∙ e

    -- a context's table is the changed one, or it stood there and the context is another one
    stands : (c : Context) (t : Table) → IsContext system c → slice_get new (place_of system c) ≡ Some t
        → ((c ≡ context) × (changes.after ≡ t)) ⊎ ((c ≡ context → ⊥) × (slice_get old (place_of system c) ≡ Some t))
    stands c t there e = elim (contexts_apart system c context there is) [
      | inl same ↦ inl (
        same,
        same_Some changes.after t (sym (slice_get-set_same old place changes.after inside)
            ∙ (ap (slice_get (set old place changes.after)) (sym (ap (place_of system) same)) ∙ seen c t e)),
      )
      | inr other ↦ inr (
        (λ same. other (ap (place_of system) same)),
        sym (slice_get-set_other old place (place_of system c) changes.after other) ∙ seen c t e,
      )
    ]

-- a context starts, if there is one
pub starts_keep : (told : Loop → Context → List ℕ) (system : System) (loops : List Loop) (started : Option Context) (old new : List Table)
    → IfSome started (IsContext system) → Keep told system loops old → Starts system loops started old new
    → Keep (λ declared c. cond (is_this c started) (begun []) (told declared c)) system loops new
starts_keep told system loops None old new exists keep same = subst (Keep told system loops) (sym same) keep
starts_keep told system loops (Some context) old new exists keep changes =
    (change_keeps told (λ declared c. cond (same_context c context) (begun []) (told declared c)) starting system loops context old new true
    exists keep changes
    (λ declared. rw (same_context-refl context))
    (λ c other declared. rw (same_context-other c context other))).kept refl

-- ---- What is within bounds

pub kept_within : (image : ImageData) (system : System) (timing : Timing) (events : List Event) (laps : Laps)
    → AreKept image system timing events laps → AreWithinBounds image timing events
kept_within image system timing events laps kept =
    λ context. each_all (λ (declared : Loop). IsWithin declared (laps_of image declared context events)) timing.loops (kept.keep.within context)

answers_by : (image : ImageData) (system : System) (timing : Timing) (events : List Event) (laps : Laps) (answer : Bool)
    → Outcome (λ declared context. laps_of image declared context events) system timing.loops laps.contexts.items answer
    → Answers image system timing events laps answer
answers_by image system timing events laps answer outcome = record {
  kept = λ is. record { keep = outcome.kept is };
  within = λ is. kept_within image system timing events laps (record { keep = outcome.kept is });
  past = λ over all. outcome.past over (λ c. all_each (λ (declared : Loop). IsWithin declared (laps_of image declared c events)) timing.loops (all c));
}

-- what the calls ask for
pub kept_fits : (image : ImageData) (system : System) (timing : Timing) (events : List Event) (laps : Laps)
    → systems.IsLawful system → timings.IsLawful timing → AreKept image system timing events laps → Fits system timing laps.contexts.items
kept_fits image system timing events laps lawful timed kept = record {
  lawful = lawful;
  bounded = record {
    each = λ i declared at. subst (λ (l : Loop). l.bound ≤ 2 ^ 20) (get_or_from_slice_get timing.loops i declared declared at)
        (timed.loops.each i declared (slice_get_within timing.loops i declared at)).1;
  };
  count = kept.keep.count;
  sound = kept.keep.sound;
}

-- ---- Before the first step

pub start_kept : (image : ImageData) (system : System) (timing : Timing) (count : ℕ) (laps : Laps) → count ≡ context_count system
    → AreStarted timing.loops count laps.contexts.items → AreKept image system timing [] laps
start_kept image system timing count laps all started = record {
  keep = record {
    count = started.many ∙ all;
    sound = record {
      room = λ p t e. (started.each p t e).room;
      bounds = λ p t e. fresh_within timing.loops t (started.each p t e);
    };
    laps = λ c t there e i declared at. (started.each (place_of system c) t e).each i;
    deep = λ c t there e declared. sym (started.each (place_of system c) t e).depth;
    within = λ c i declared at. (omega arith, tt);
  };
}

-- ---- Each kind of step

pub arrive_kept : (image : ImageData) (system : System) (timing : Timing) (arrival : Arrival) (earlier : List Event) (laps : Laps)
    → AreKept image system timing earlier laps → AreKept image system timing (Arrive arrival ∷ earlier) laps
arrive_kept image system timing arrival earlier laps kept = record { keep = kept.keep }

pub idle_kept : (image : ImageData) (system : System) (timing : Timing) (cycles : ℕ) (earlier : List Event) (laps : Laps)
    → AreKept image system timing earlier laps → AreKept image system timing (Idle cycles ∷ earlier) laps
idle_kept image system timing cycles earlier laps kept = record { keep = kept.keep }

pub take_kept : (image : ImageData) (system : System) (timing : Timing) (taking : Taking) (earlier : List Event) (old new : Laps)
    → IfSome taking.started (IsContext system) → Starts system timing.loops taking.started old.contexts.items new.contexts.items
    → AreKept image system timing earlier old → AreKept image system timing (Take taking ∷ earlier) new
take_kept image system timing taking earlier old new exists starts kept = record {
  keep = starts_keep (λ declared c. laps_of image declared c earlier) system timing.loops taking.started old.contexts.items new.contexts.items
      exists kept.keep starts;
}

turned_as : (declared : Loop) (turn : Option Turn) (e : Execution) (xs : List ℕ)
    → turned declared turn e xs ≡ turning turn e.before.place e.after.place (innermost e.before.calls) declared xs
turned_as declared None e xs = refl
turned_as declared (Some Onward) e xs = refl
turned_as declared (Some (Branching target)) e xs = refl
turned_as declared (Some (Jumping target)) e xs = refl
turned_as declared (Some (Calling target)) e xs = refl
turned_as declared (Some Returning) e xs = refl
turned_as declared (Some Serving) e xs = refl
turned_as declared (Some Indirect) e xs = refl
turned_as declared (Some Breaking) e xs = refl

pub execute_answers : (image : ImageData) (system : System) (timing : Timing) (e : Execution) (earlier : List Event) (old new : Laps) (answer : Bool)
    → IsContext system e.context
    → Changes (turning (turn_at (insn_at image) e.before.place) e.before.place e.after.place (innermost e.before.calls)) timing.loops
    (place_of system e.context)
    old.contexts.items new.contexts.items answer
    → AreKept image system timing earlier old → Answers image system timing (Execute e ∷ earlier) new answer
execute_answers image system timing e earlier old new answer is changes kept =
    answers_by image system timing (Execute e ∷ earlier) new answer
    (change_keeps (λ declared c. laps_of image declared c earlier) (λ declared c. laps_of image declared c (Execute e ∷ earlier))
    (turning (turn_at (insn_at image) e.before.place) e.before.place e.after.place (innermost e.before.calls)) system timing.loops e.context
    old.contexts.items new.contexts.items answer is kept.keep changes
    (λ declared. rw (same_context-refl e.context) (turned_as declared (turn_at (insn_at image) e.before.place) e (laps_of image declared e.context earlier)))
    (λ c other declared. rw (same_context-other c e.context other)))

served_own : (started goes_on : Bool) (declared : Loop) (at : ℕ) (xs : List ℕ)
    → cond started (begun []) (cond (true && goes_on) (moved_on declared at (following at) xs) xs)
    ≡ going_on (goes_on && not started) at declared (cond started (begun []) xs)
served_own true true declared at xs = refl
served_own true false declared at xs = refl
served_own false true declared at xs = refl
served_own false false declared at xs = refl

pub serve_answers : (image : ImageData) (system : System) (timing : Timing) (call : ServiceCall) (earlier : List Event) (old new : Laps) (answer : Bool)
    → IsContext system call.caller → IfSome (option_map contexts.Task call.reply.activated) (IsContext system)
    → HasServed system timing.loops call.caller call.before.place (is_none call.reply.ended) (option_map contexts.Task call.reply.activated)
    old.contexts.items new.contexts.items answer
    → AreKept image system timing earlier old → Answers image system timing (Serve call ∷ earlier) new answer
serve_answers image system timing call earlier old new answer is exists served kept =
    answers_by image system timing (Serve call ∷ earlier) new answer
    (change_keeps (λ declared c. cond (is_this c started) (begun []) (laps_of image declared c earlier))
    (λ declared c. laps_of image declared c (Serve call ∷ earlier))
    (going_on (is_none call.reply.ended && not (is_this call.caller started)) call.before.place) system timing.loops call.caller
    served.between new.contexts.items answer is
    (starts_keep (λ declared c. laps_of image declared c earlier) system timing.loops started old.contexts.items served.between
    exists kept.keep served.starts) served.moves
    (λ declared. rw (same_context-refl call.caller)
    (served_own (is_this call.caller started) (is_none call.reply.ended) declared call.before.place (laps_of image declared call.caller earlier)))
    (λ c other declared. rw (same_context-other c call.caller other)))
  where
    started : Option Context
    started = option_map contexts.Task call.reply.activated
