-- Following the events of a trace: what holds of all of them where none has a fault.
use Rattle.std.proofs.Common.{◌≡◌, ℕ, suc, cond, false, List, [], ◌∷◌, ◌++◌, refl, ◌∙◌, ap}
use Rattle.std.specs.Prelude.{Option, Some, None, unwrap_or}
use Rattle.wcet_atomic_blocks.specs.Plants.{PlantData}
use Rattle.trace_check.specs.declared.trace.Event.{Event}
use Rattle.trace_check.specs.declared.verdict.TraceVerdict.{TraceVerdict}
use Rattle.trace_check.specs.declared.verdict.TraceVerdict.TheVariants.{Fits, NotAWalk, TooClose, OverBound}
use Rattle.trace_check.specs.Verdict.{Follower, followed, is_no_walk, is_too_close, is_over, fault_at, verdict_at_end, verdict_from}

-- how far they were followed after the events
abbrev pub all_followed : PlantData → ℕ → Follower → List Event → Follower
all_followed plant task f [] = f
all_followed plant task f (event ∷ events) = all_followed plant task (followed plant task f event) events

-- the event has no fault
pub record IsSound (plant : PlantData) (task bound : ℕ) (f : Follower) (event : Event) : Type 0 where
  pub walks : is_no_walk plant f event ≡ false
  pub apart : is_too_close plant f event ≡ false
  pub within : is_over plant task bound f event ≡ false

abbrev pub AreSound : PlantData → ℕ → ℕ → Follower → List Event → Type 0
AreSound plant task bound f [] = Unit {0}
AreSound plant task bound f (event ∷ events) = IsSound plant task bound f event × AreSound plant task bound (followed plant task f event) events

-- ---- Lists that are joined

pub followed_append : (plant : PlantData) (task : ℕ) (f : Follower) (xs ys : List Event)
    → all_followed plant task f (xs ++ ys) ≡ all_followed plant task (all_followed plant task f xs) ys
followed_append plant task f [] ys = refl
followed_append plant task f (x ∷ xs) ys = followed_append plant task (followed plant task f x) xs ys

pub sound_append : (plant : PlantData) (task bound : ℕ) (f : Follower) (xs ys : List Event) → AreSound plant task bound f xs
    → AreSound plant task bound (all_followed plant task f xs) ys → AreSound plant task bound f (xs ++ ys)
sound_append plant task bound f [] ys first then = then
sound_append plant task bound f (x ∷ xs) ys first then =
    (first.0, sound_append plant task bound (followed plant task f x) xs ys first.1 then)

-- ---- The verdict

no_fault : (plant : PlantData) (task bound place : ℕ) (f : Follower) (event : Event) → IsSound plant task bound f event
    → fault_at plant task bound place f event ≡ None
no_fault plant task bound place f event sound =
    ap (λ b. cond b (Some (NotAWalk place)) (cond (is_too_close plant f event) (Some (TooClose place))
    (cond (is_over plant task bound f event) (Some (OverBound place)) None))) sound.walks
    ∙ (ap (λ b. cond b (Some (TooClose place)) (cond (is_over plant task bound f event) (Some (OverBound place)) None)) sound.apart
    ∙ ap (λ b. cond b (Some (OverBound place)) None) sound.within)

-- A trace fits where no event has a fault, nor its end.
pub fits_from : (plant : PlantData) (task bound end place : ℕ) (f : Follower) (events : List Event) → AreSound plant task bound f events
    → ((n : ℕ) → verdict_at_end bound end n (all_followed plant task f events) ≡ Fits)
    → verdict_from plant task bound end place f events ≡ Fits
fits_from plant task bound end place f [] sound ends = ends place
fits_from plant task bound end place f (event ∷ events) sound ends =
    ap (λ (o : Option TraceVerdict). unwrap_or o (verdict_from plant task bound end (suc place) (followed plant task f event) events))
    (no_fault plant task bound place f event sound.0)
    ∙ fits_from plant task bound end (suc place) (followed plant task f event) events sound.1 ends
