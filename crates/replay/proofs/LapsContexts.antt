-- The laps of all contexts, as those of one change.
use Rattle.std.proofs.Common.{◌≡◌, ℕ, zero, suc, ◌+◌, ◌<◌, ◌≢◌, ◌⊎◌, inl, inr, Bool, true, List, [], ◌∷◌, ◌++◌, length, get_or, set, Some, refl, sym, ◌∙◌, ap, subst, arith}
use Rattle.std.specs.Prelude.{slice_get, IsTrue, ◌↔◌}
use Rattle.std.proofs.lemmas.List.{length-set, length-append}
use Rattle.std.proofs.lemmas.Option.{same_Some, none-some, slice_get_within, slice_get-get_or}
use Rattle.oil_model.specs.declared.system.System.{System}
use Rattle.timing_file.specs.declared.timing.Loop.{Loop}
use Rattle.timing_file.specs.declared.timing.Timing.{Timing}
use Rattle.replay.specs.Working.Table.{Table}
use Rattle.replay.specs.Working.Laps.{HasRoom, KeepBounds, ChangesBy, IsSound, IsStarted, AreStarted, Changes, Fits, starting}
use Rattle.replay.proofs.LapsTables.{same_or_other}

pub slice_get-set_same : {X : Type 0} (xs : List X) (i : ℕ) (x : X) → i < length xs → slice_get (set xs i x) i ≡ Some x
slice_get-set_same [] i x inside = absurd (omega arith)
slice_get-set_same (y ∷ xs) zero x inside = refl
slice_get-set_same (y ∷ xs) (suc i) x inside = slice_get-set_same xs i x (omega arith)

pub slice_get-set_other : {X : Type 0} (xs : List X) (i j : ℕ) (x : X) → j ≢ i → slice_get (set xs i x) j ≡ slice_get xs j
slice_get-set_other [] i j x apart = refl
slice_get-set_other (y ∷ xs) zero zero x apart = absurd (apart refl)
slice_get-set_other (y ∷ xs) zero (suc j) x apart = refl
slice_get-set_other (y ∷ xs) (suc i) zero x apart = refl
slice_get-set_other (y ∷ xs) (suc i) (suc j) x apart = slice_get-set_other xs i j x (λ e. apart (ap suc e))

-- a member of a list with one more stood there, or is the new one
slice_get-more : {X : Type 0} (xs : List X) (y x : X) (i : ℕ) → slice_get (xs ++ y ∷ []) i ≡ Some x → (slice_get xs i ≡ Some x) ⊎ (y ≡ x)
slice_get-more [] y x zero e = inr (same_Some y x e)
slice_get-more [] y x (suc i) e = absurd (none-some x e)
slice_get-more (z ∷ xs) y x zero e = inl e
slice_get-more (z ∷ xs) y x (suc i) e = slice_get-more xs y x i e

-- ---- One context

pub room_here : (loops : List Loop) (tables : List Table) (place : ℕ) (d : Table) → place < length tables → IsSound loops tables
    → HasRoom loops (get_or tables place d)
room_here loops tables place d there sound = sound.room place (get_or tables place d) (slice_get-get_or tables place d there)

pub bounds_here : (loops : List Loop) (tables : List Table) (place : ℕ) (d : Table) → place < length tables → IsSound loops tables
    → KeepBounds loops (get_or tables place d)
bounds_here loops tables place d there sound = sound.bounds place (get_or tables place d) (slice_get-get_or tables place d there)

pub there : (tables : List Table) (place : ℕ) (d : Table) → place < length tables → slice_get tables place ≡ Some (get_or tables place d)
there tables place d inside = slice_get-get_or tables place d inside

pub changed : (change : Loop → List ℕ → List ℕ) (loops : List Loop) (place : ℕ) (old : List Table) (d after : Table) (answer : Bool) → place < length old
    → ChangesBy change loops (get_or old place d) after → IsTrue answer ↔ KeepBounds loops after → Changes change loops place old (set old place after) answer
changed change loops place old d after answer inside changes answers = record {
  before = get_or old place d;
  after = after;
  was = slice_get-get_or old place d inside;
  becomes = refl;
  changes = changes;
  answers = answers;
}

pub sure : (loops : List Loop) (table : Table) → KeepBounds loops table → IsTrue true ↔ KeepBounds loops table
sure loops table bounds = ((λ yes. bounds), (λ all. refl))

-- ---- All contexts

-- a table after the change is the changed one, or stood there
pub after_change : (old : List Table) (place : ℕ) (after : Table) (p : ℕ) (t : Table) → place < length old → slice_get (set old place after) p ≡ Some t
    → ((p ≡ place) × (after ≡ t)) ⊎ (slice_get old p ≡ Some t)
after_change old place after p t inside e = elim (same_or_other p place) [
  | inl same ↦ inl (same, same_Some after t (sym (slice_get-set_same old place after inside) ∙ (ap (slice_get (set old place after)) (sym same) ∙ e)))
  | inr other ↦ inr (sym (slice_get-set_other old place p after other) ∙ e)
]

sound_set : (loops : List Loop) (old : List Table) (place : ℕ) (after : Table) → place < length old → IsSound loops old → HasRoom loops after
    → KeepBounds loops after
    → IsSound loops (set old place after)
sound_set loops old place after inside sound room bounds = record {
  room = λ p t e. elim (after_change old place after p t inside e) [
    | inl here ↦ subst (HasRoom loops) here.1 room
    | inr stood ↦ sound.room p t stood
  ];
  bounds = λ p t e. elim (after_change old place after p t inside e) [
    | inl here ↦ subst (KeepBounds loops) here.1 bounds
    | inr stood ↦ sound.bounds p t stood
  ];
}

pub changes_sound : (change : Loop → List ℕ → List ℕ) (loops : List Loop) (place : ℕ) (old new : List Table) (answer : Bool)
    → Changes change loops place old new answer
    → answer ≡ true → IsSound loops old → IsSound loops new
changes_sound change loops place old new answer changes within sound =
    subst (IsSound loops) (sym changes.becomes)
    (sound_set loops old place changes.after (slice_get_within old place changes.before changes.was) sound changes.changes.room (changes.answers.0 within))

pub changes_count : (change : Loop → List ℕ → List ℕ) (loops : List Loop) (place : ℕ) (old new : List Table) (answer : Bool)
    → Changes change loops place old new answer
    → length new ≡ length old
changes_count change loops place old new answer changes = ap (λ (ts : List Table). length ts) changes.becomes ∙ length-set old place changes.after

pub start_fits : (system : System) (timing : Timing) (place : ℕ) (old new : List Table) → Changes starting timing.loops place old new true
    → Fits system timing old → Fits system timing new
start_fits system timing place old new changes fits = record {
  lawful = fits.lawful;
  bounded = fits.bounded;
  count = changes_count starting timing.loops place old new true changes ∙ fits.count;
  sound = changes_sound starting timing.loops place old new true changes refl fits.sound;
}

-- ---- The start

pub none_started : (loops : List Loop) → AreStarted loops 0 []
none_started loops = record { many = refl; each = λ p t e. absurd (none-some t e) }

pub one_started : (loops : List Loop) (n : ℕ) (tables : List Table) (t : Table) → AreStarted loops n tables → IsStarted loops t
    → AreStarted loops (n + 1) (tables ++ t ∷ [])
one_started loops n tables t started fresh = record {
  many = (let e : length tables ≡ n = started.many in simp length-append (omega arith));
  each = λ p u e. elim (slice_get-more tables t u p e) [
    | inl stood ↦ started.each p u stood
    | inr new ↦ subst (IsStarted loops) new fresh
  ];
}
