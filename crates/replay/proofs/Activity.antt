-- Since when tasks are active, and what a step ends.
use Rattle.std.proofs.Common.{◌≡◌, inl, inr, ℕ, ◌<◌, Bool, true, cond, List, ◌∷◌, ◌++◌, length, reverse, Option, Some, None, refl, sym, ◌∙◌, ap, subst, arith}
use Rattle.std.specs.Prelude.{◌==◌, slice_index_or, slice_set, option_map, option_to_list}
use Rattle.std.proofs.lemmas.Bool.{eq-eqb, ne_eqb, cases_eq}
use Rattle.std.proofs.lemmas.List.{length-set, get_or-set_same, get_or-set_other}
use Rattle.oil_model.specs.declared.system.System.{System}
use Rattle.osek_kernel.specs.declared.context.Context.{Context}
use Rattle.osek_kernel.specs.declared.context.Context.TheVariants as contexts
use Rattle.osek_kernel.specs.Contexts.{IsContext}
use Rattle.osek_machine.specs.Activations.{active_since, lasting, ended_now}
use Rattle.osek_machine.specs.Events.{Event, duration, started_by, ended_by}
use Rattle.osek_machine.specs.Loops.{is_this}
use Rattle.replay.specs.declared.response.Response.{Response}
use Rattle.replay.specs.Play.{response_of}
use Rattle.replay.specs.Working.Follows.{KnowsActive}
use Rattle.replay.specs.Working.Moves.{active_from, active_without, response_from, response_at}

-- ---- Since when a task is active after a context ended, and after one started

-- the task at hand, after the context ended
since_ended : Option Context → ℕ → Option ℕ → Option ℕ
since_ended ended task since = cond (is_this (contexts.Task task) ended) None since

since_started : Option Context → ℕ → ℕ → Option ℕ → Option ℕ
since_started started moment task since = cond (is_this (contexts.Task task) started) (Some moment) since

without-count : (ended : Option Context) (active : List (Option ℕ)) → length (active_without ended active) ≡ length active
without-count None active = refl
without-count (Some (contexts.Task t)) active = length-set active t None
without-count (Some (contexts.Isr i)) active = refl

from-count : (started : Option Context) (moment : ℕ) (active : List (Option ℕ)) → length (active_from started moment active) ≡ length active
from-count None moment active = refl
from-count (Some (contexts.Task t)) moment active = length-set active t (Some moment)
from-count (Some (contexts.Isr i)) moment active = refl

set_at : (active : List (Option ℕ)) (t task : ℕ) (value : Option ℕ) → task < length active
    → slice_index_or (slice_set active t value) task None ≡ cond (task == t) value (slice_index_or active task None)
set_at active t task value within = elim (cases_eq task t) [
  | inl is ↦ ap (λ (i : ℕ). slice_index_or (slice_set active i value) task None) (sym is)
      ∙ (get_or-set_same active task value None within ∙ sym (ap (λ (b : Bool). cond b value (slice_index_or active task None)) (eq-eqb task t is)))
  | inr other ↦ get_or-set_other active t task value None other
      ∙ sym (ap (λ (b : Bool). cond b value (slice_index_or active task None)) (ne_eqb task t other))
]

without-at : (ended : Option Context) (active : List (Option ℕ)) (task : ℕ) → task < length active
    → slice_index_or (active_without ended active) task None ≡ since_ended ended task (slice_index_or active task None)
unfolding since_ended
without-at None active task within = refl
without-at (Some (contexts.Task t)) active task within = set_at active t task None within
without-at (Some (contexts.Isr i)) active task within = refl

from-at : (started : Option Context) (moment : ℕ) (active : List (Option ℕ)) (task : ℕ) → task < length active
    → slice_index_or (active_from started moment active) task None ≡ since_started started moment task (slice_index_or active task None)
unfolding since_started
from-at None moment active task within = refl
from-at (Some (contexts.Task t)) moment active task within = set_at active t task (Some moment) within
from-at (Some (contexts.Isr i)) moment active task within = refl

since_both : (system : System) (mode task : ℕ) (event : Event) (earlier : List Event)
    → active_since system mode task (event ∷ earlier)
    ≡ since_started (started_by event) (duration earlier) task (since_ended (ended_by event) task (active_since system mode task earlier))
unfolding since_started since_ended
since_both system mode task event earlier = refl

-- ---- What is known after a step

pub knows_active : (system : System) (mode moment : ℕ) (event : Event) (earlier : List Event) (active active' : List (Option ℕ))
    → moment ≡ duration earlier → active' ≡ active_from (started_by event) moment (active_without (ended_by event) active)
    → KnowsActive system mode earlier active → KnowsActive system mode (event ∷ earlier) active'
knows_active system mode moment event earlier active active' now is knows =
    let gone : List (Option ℕ) = active_without (ended_by event) active in
    let known : length active ≡ length system.tasks = knows.count in
    let shorter : length gone ≡ length active = without-count (ended_by event) active in
    let count : length (active_from (started_by event) moment gone) ≡ length system.tasks =
    from-count (started_by event) moment gone ∙ (shorter ∙ known) in
    subst (KnowsActive system mode (event ∷ earlier)) (sym is) (record {
      count = count;
      each = λ task within.
          from-at (started_by event) moment gone task (omega arith)
          ∙ (ap (λ (n : ℕ). since_started (started_by event) n task (slice_index_or gone task None)) now
          ∙ (ap (since_started (started_by event) (duration earlier) task) (without-at (ended_by event) active task (omega arith)
          ∙ ap (since_ended (ended_by event) task) (knows.each task within))
          ∙ sym (since_both system mode task event earlier)));
    })

-- ---- What a step ends

response-lasts : (task moment : ℕ) (event : Event) (earlier : List Event) (since : Option ℕ) → moment ≡ duration (event ∷ earlier)
    → option_map (response_from task moment) since ≡ option_map response_of (option_map (lasting task true (event ∷ earlier)) since)
response-lasts task moment event earlier None now = refl
response-lasts task moment event earlier (Some start) now = ap (λ (n : ℕ). Some (response_from task n start)) now

pub response_then : (system : System) (mode moment : ℕ) (event : Event) (earlier : List Event) (active : List (Option ℕ)) (ended : Option Context)
    → moment ≡ duration (event ∷ earlier) → ((c : Context) → ended ≡ Some c → IsContext system c) → KnowsActive system mode earlier active
    → response_at ended moment active ≡ option_map response_of (ended_now system mode ended event earlier)
response_then system mode moment event earlier active None now exist knows = refl
response_then system mode moment event earlier active (Some (contexts.Isr i)) now exist knows = refl
response_then system mode moment event earlier active (Some (contexts.Task t)) now exist knows =
    ap (option_map (response_from t moment)) (knows.each t (exist (contexts.Task t) refl))
    ∙ response-lasts t moment event earlier (active_since system mode t earlier) now

-- ---- The responses of a run so far

-- one more at the end
abbrev pub responses_with : List Response → Option Response → List Response
responses_with responses ended = responses ++ option_to_list ended

reverse-option : (o : Option Response) → reverse (option_to_list o) ≡ option_to_list o
reverse-option None = refl
reverse-option (Some x) = refl
