-- Followers in code, event by event.
use Rattle.std.proofs.Common.{◌≡◌, ℕ, zero, suc, ◌+◌, ◌<◌, false, List, [], ◌∷◌, length, drop, get_or, Option, Some, None, refl, sym, ap, ◌∙◌, subst, arith}
use Rattle.std.specs.Prelude.{option_and_then, option_map, slice_get, slice_set, find, IfSome, unwrap_or}
use Rattle.std.specs.List.{AllByRecursion}
use Rattle.std.proofs.lemmas.List.{length-set}
use Rattle.wcet_atomic_blocks.specs.Plants.{PlantData}
use Rattle.abstract_sched.specs.declared.states.AbsState.{AbsState}
use Rattle.row_build.specs.Columns.{Going, calls_at}
use Rattle.certificate.specs.declared.cert.Cert.{Cert}
use Rattle.oil_model.specs.declared.system.System.{System}
use Rattle.trace_check.specs.declared.follower.Follower as code
use Rattle.trace_check.specs.declared.tables.Step.{Step}
use Rattle.trace_check.specs.declared.tables.Tables.{Tables}
use Rattle.trace_check.specs.declared.trace.Event.{Event}
use Rattle.trace_check.specs.declared.trace.Event.TheVariants.{Take}
use Rattle.trace_check.specs.declared.trace.Trace.{Trace}
use Rattle.trace_check.specs.declared.verdict.TraceVerdict.{TraceVerdict}
use Rattle.trace_check.specs.Trace.{NamesWhatExists}
use Rattle.trace_check.specs.Verdict.{Follower, Times, has_wrong_times, isnt_pending, move_of, move_with, fault_at, followed, verdict_from, verdict_at_end, verdict_of}
use Rattle.trace_check.specs.Working.Following.{Follows, MovesOn, Goes, Judging, timed_fault}
use Rattle.trace_check.specs.Working.Tables.{going_of, AreSteps, AreTables}
use Rattle.trace_check.proofs.Tabling.{step_with, found_listed}

-- ---- A take

abbrev cleared : Follower → ℕ → Follower
cleared f source = record f { pending = slice_set f.pending source false }

pub clears : (plant : PlantData) (states : List AbsState) (before after : code.Follower) (f : Follower) (source : ℕ) → Follows plant states before f
    → after.state ≡ before.state → after.pending.items ≡ slice_set before.pending.items source false → after.last_start ≡ before.last_start
    → after.latest ≡ before.latest → after.arrivals ≡ before.arrivals → after.since ≡ before.since → Follows plant states after (cleared f source)
clears plant states before after f source follows state pending last_start latest arrivals since = record {
  state = ap (slice_get states) state ∙ follows.state;
  pending = pending ∙ ap (λ p. slice_set p source false) follows.pending;
  room = length-set f.pending source false ∙ follows.room;
  last_start = last_start ∙ follows.last_start;
  latest = latest ∙ follows.latest;
  arrivals = rw (arrivals) (follows.arrivals);
  since = since ∙ follows.since;
}

abbrev take_times : ℕ → ℕ → Times
take_times start end = record { start = start; end = end }

take_fault : (plant : PlantData) (task bound place : ℕ) (f : Follower) (start end source : ℕ) → has_wrong_times f (take_times start end) ≡ false
    → isnt_pending f source ≡ false
    → fault_at plant task bound place f (Take start end source)
    ≡ timed_fault plant task bound place (cleared f source) (take_times start end) (move_of plant f.state (Take start end source))
take_fault plant task bound place f start end source times pending = rw (times, pending) refl

pub take_goes : (plant : PlantData) (cert : Cert) (place : ℕ) (f : Follower) (start end source : ℕ) (going : Option Going) (after : code.Follower)
    (result : Option TraceVerdict) → has_wrong_times f (take_times start end) ≡ false → isnt_pending f source ≡ false
    → going ≡ move_of plant f.state (Take start end source)
    → MovesOn plant cert place (cleared f source) (take_times start end) going after result
    → Goes plant cert place f (Take start end source) after result
take_goes plant cert place f start end source going after result times pending is moves =
    by result (subst (λ (g : Option Going). MovesOn plant cert place (cleared f source) (take_times start end) g after result) is moves)
  where
    same : fault_at plant cert.task cert.bound place f (Take start end source)
        ≡ timed_fault plant cert.task cert.bound place (cleared f source) (take_times start end) (move_of plant f.state (Take start end source))
    same = take_fault plant cert.task cert.bound place f start end source times pending

    by : (r : Option TraceVerdict)
        → MovesOn plant cert place (cleared f source) (take_times start end) (move_of plant f.state (Take start end source)) after r
        → Goes plant cert place f (Take start end source) after r
    by (Some verdict) holds = same ∙ holds
    by None holds = (same ∙ holds.0, holds.1)

-- ---- Steps that were looked up

pub service_step : (plant : PlantData) (states : List AbsState) (number : ℕ) (state : AbsState) (steps : List Step) (node : Option ℕ)
    → slice_get states number ≡ Some state → AreSteps plant states number steps
    → option_map (going_of states number) (option_and_then (λ n. find (λ step. calls_at n step.label) steps) node)
    ≡ option_and_then (λ n. move_with plant state (calls_at n)) node
service_step plant states number state steps None at made = refl
service_step plant states number state steps (Some n) at made = step_with plant states number state steps (calls_at n) at made

pub service_listed : (P : Step → Type 0) (steps : List Step) (node : Option ℕ) → AllByRecursion P steps
    → IfSome (option_and_then (λ n. find (λ step. calls_at n step.label) steps) node) P
service_listed P steps None all = tt
service_listed P steps (Some n) all = found_listed P (λ step. calls_at n step.label) steps all

-- ---- Event by event

pub none_from : {A : Type 0} (o : Option A) → ((x : A) → o ≡ Some x → ⊥) → o ≡ None
none_from None never = refl
none_from (Some x) never = absurd (never x refl)

pub names_at : (system : System) (events : List Event) (place : ℕ) (event : Event) → AllByRecursion (NamesWhatExists system) events → place < length events
    → event ≡ get_or events place event → NamesWhatExists system event
names_at system events place event all within is = rw (is) (by events place all within)
  where
    by : (es : List Event) (k : ℕ) → AllByRecursion (NamesWhatExists system) es → k < length es → NamesWhatExists system (get_or es k event)
    by [] k all within = absurd (omega (arith, within))
    by (e ∷ es) zero all within = all.0
    by (e ∷ es) (suc k) all within = by es k all.1 (omega (arith, within))

rest_at : (plant : PlantData) (cert : Cert) (trace : Trace) (place : ℕ) (f : Follower) (event : Event) → place < length trace.events
    → event ≡ get_or trace.events place event
    → verdict_from plant cert.task cert.bound trace.end place f (drop place trace.events)
    ≡ unwrap_or (fault_at plant cert.task cert.bound place f event)
    (verdict_from plant cert.task cert.bound trace.end (suc place) (followed plant cert.task f event) (drop (suc place) trace.events))
rest_at plant cert trace place f event within is =
    ap (verdict_from plant cert.task cert.bound trace.end place f) (dropped trace.events place within is)
  where
    dropped : (es : List Event) (k : ℕ) → k < length es → event ≡ get_or es k event → drop k es ≡ event ∷ drop (suc k) es
    dropped [] k within is = absurd (omega (arith, within))
    dropped (e ∷ es) zero within is = ap (λ x. x ∷ es) (sym is)
    dropped (e ∷ es) (suc k) within is = dropped es k (omega (arith, within)) is

pub goes_on : (plant : PlantData) (cert : Cert) (trace : Trace) (tables new_tables : Tables) (before after : code.Follower) (place : ℕ) (event : Event)
    → (judging : Judging plant cert trace tables before place) → place < length trace.events → event ≡ get_or trace.events place event
    → AreTables plant cert.states new_tables → Goes plant cert place judging.f event after None
    → Judging plant cert trace new_tables after (place + 1)
goes_on plant cert trace tables new_tables before after place event judging within is are goes =
    let next : suc place ≡ place + 1 = omega arith in
    subst (λ (n : ℕ). Judging plant cert trace new_tables after n) next (record {
      f = followed plant cert.task judging.f event;
      follows = goes.1;
      tables_are = are;
      rest = sym (ap (λ fault. unwrap_or fault (verdict_from plant cert.task cert.bound trace.end (suc place) (followed plant cert.task judging.f event)
          (drop (suc place) trace.events))) goes.0)
          ∙ (sym (rest_at plant cert trace place judging.f event within is) ∙ judging.rest);
    })

pub goes_wrong : (plant : PlantData) (cert : Cert) (trace : Trace) (tables : Tables) (before after : code.Follower) (place : ℕ) (event : Event)
    (verdict : TraceVerdict) → (judging : Judging plant cert trace tables before place) → place < length trace.events
    → event ≡ get_or trace.events place event → Goes plant cert place judging.f event after (Some verdict)
    → verdict ≡ verdict_of plant cert.task cert.bound trace
goes_wrong plant cert trace tables before after place event verdict judging within is goes =
    sym (ap (λ fault. unwrap_or fault (verdict_from plant cert.task cert.bound trace.end (suc place) (followed plant cert.task judging.f event)
    (drop (suc place) trace.events))) goes)
    ∙ (sym (rest_at plant cert trace place judging.f event within is) ∙ judging.rest)

pub judged : (plant : PlantData) (cert : Cert) (trace : Trace) (tables : Tables) (follower : code.Follower) (place : ℕ) (verdict : TraceVerdict)
    → (judging : Judging plant cert trace tables follower place) → length trace.events ≡ place
    → verdict ≡ verdict_at_end cert.bound trace.end place judging.f
    → verdict ≡ verdict_of plant cert.task cert.bound trace
judged plant cert trace tables follower place verdict judging all is =
    is
    ∙ (sym (ap (verdict_from plant cert.task cert.bound trace.end place judging.f) (none trace.events place all)) ∙ judging.rest)
  where
    none : (es : List Event) (k : ℕ) → length es ≡ k → drop k es ≡ []
    none [] zero all = refl
    none [] (suc k) all = refl
    none (e ∷ es) zero all = absurd (omega (arith, all))
    none (e ∷ es) (suc k) all = none es k (omega (arith, all))
