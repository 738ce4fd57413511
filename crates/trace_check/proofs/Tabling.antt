-- Moves between listed states by their places.
use Rattle.std.proofs.Common.{◌≡◌, ℕ, zero, suc, ◌+◌, ◌<◌, Bool, true, false, List, [], ◌∷◌, ◌++◌, length, map, take, get_or, Option, Some, None, Result, Ok, Err, refl, sym, ap, ◌∙◌, subst, arith, inl, inr, ◌⊎◌}
use Rattle.std.specs.Prelude.{IfOk, IfSome, cond, find, is_some, option_map, slice_get, slice_set}
use Rattle.std.specs.List.{AllByRecursion}
use Rattle.std.proofs.lemmas.List.{length-set, take_more}
use Rattle.std.proofs.lemmas.Option.{same_Some, slice_get-get_or, slice_get_within}
use Rattle.wcet_atomic_blocks.specs.Plants.{PlantData}
use Rattle.abstract_sched.specs.declared.states.AbsState.{AbsState}
use Rattle.scheduler_moves.specs.Moves.{successors}
use Rattle.scheduler_moves.specs.declared.moves.Move.{Move}
use Rattle.scheduler_moves.specs.declared.moves.MoveLabel.{MoveLabel}
use Rattle.row_build.specs.Columns.{goings_from}
use Rattle.row_build.specs.Working.Numbered.{state_at}
use Rattle.row_build.proofs.States.{state_from, goings_are}
use Rattle.trace_check.specs.declared.tables.Step.{Step}
use Rattle.trace_check.specs.Verdict.{move_with}
use Rattle.trace_check.specs.Working.Tables.{going_of, AreSteps, AreMade, AreRows}
use Rattle.trace_check.proofs.Arriving.{set_or_same}

-- ---- steps that are made one by one

map_push : {A B : Type 0} (f : A → B) (xs : List A) (x : A) → map f (xs ++ x ∷ []) ≡ map f xs ++ f x ∷ []
map_push f [] x = refl
map_push f (y ∷ xs) x = ap (λ more. f y ∷ more) (map_push f xs x)

map_map : {A B C : Type 0} (f : A → B) (g : B → C) (xs : List A) → map (λ x. g (f x)) xs ≡ map g (map f xs)
map_map f g [] = refl
map_map f g (x ∷ xs) = ap (λ more. g (f x) ∷ more) (map_map f g xs)

all_push : {A : Type 0} (P : A → Type 0) (xs : List A) (x : A) → AllByRecursion P xs → P x → AllByRecursion P (xs ++ x ∷ [])
all_push P [] x all last = (last, tt)
all_push P (y ∷ xs) x all last = (all.0, all_push P xs x all.1 last)

abbrev made_of : List AbsState → Step → Move
made_of states step = record { label = step.label; to = state_at states step.to }

pub made_more : (states : List AbsState) (moves : List Move) (place : ℕ) (made : Move) (steps new : List Step) (to : ℕ) → place < length moves
    → made ≡ get_or moves place made → new ≡ steps ++ record { label = made.label; to = to } ∷ [] → slice_get states to ≡ Some made.to
    → AreMade states (take place moves) steps → AreMade states (take (place + 1) moves) new
made_more states moves place made steps new to within at pushed found before =
    let step : Step = record { label = made.label; to = to } in
    record {
      are = rw (pushed)
          (map_push (made_of states) steps step
          ∙ rw (before.are, state_from states to made.to found) (ap (λ m. take place moves ++ m ∷ []) at ∙ sym (take_more moves place made within)));
      listed = rw (pushed) (all_push (λ s. s.to < length states) steps step before.listed (slice_get_within states to made.to found));
    }

-- ---- the steps of a state

pub if_ok : {A K : Type 0} (P Q : A → Type 0) (r : Result A K) → ((x : A) → P x → Q x) → IfOk r P → IfOk r Q
if_ok P Q (Ok x) each holds = each x holds
if_ok P Q (Err e) each holds = tt

pub steps_made : (plant : PlantData) (states : List AbsState) (number : ℕ) (state : AbsState) (moves slice : List Move) → slice ≡ moves
    → state_at states number ≡ state → successors plant state ≡ Ok moves → (steps : List Step) → AreMade states slice steps
    → AreSteps plant states number steps
steps_made plant states number state moves slice same at is steps made = record {
  are = map_map (made_of states) (λ move. record { from = state_at states number; move = move }) steps
      ∙ (ap (map (λ move. record { from = state_at states number; move = move })) (made.are ∙ same)
      ∙ goings_are plant state (state_at states number) moves at is);
  listed = made.listed;
}

-- ---- rows

pub rows_more : (plant : PlantData) (states : List AbsState) (rows : List (Option (List Step))) (number : ℕ) (steps : List Step)
    → AreRows plant states rows → AreSteps plant states number steps → AreRows plant states (slice_set rows number (Some steps))
rows_more plant states rows number steps before made = record {
  count = length-set rows number (Some steps) ∙ before.count;
  each = λ other found is. by other found (set_or_same rows number other (Some steps) (Some found) is);
}
  where
    by : (other : ℕ) (found : List Step)
        → ((other ≡ number) × (Some found ≡ Some steps)) ⊎ ((other ≡ number → ⊥) × (slice_get rows other ≡ Some (Some found)))
        → AreSteps plant states other found
    by other found (inl both) =
        subst (λ (n : ℕ). AreSteps plant states n found) (sym both.0)
        (subst (λ (s : List Step). AreSteps plant states number s) (sym (same_Some found steps both.1)) made)
    by other found (inr away) = before.each other found away.1

pub get_set : {A : Type 0} (xs : List A) (i : ℕ) (x : A) → i < length xs → slice_get (slice_set xs i x) i ≡ Some x
get_set [] i x within = absurd (omega (arith, within))
get_set (y ∷ xs) zero x within = refl
get_set (y ∷ xs) (suc i) x within = get_set xs i x (omega (arith, within))

pub is_there : (rows : List (Option (List Step))) (number : ℕ) (row : Option (List Step)) → number < length rows → row ≡ get_or rows number row
    → is_some row ≡ true → (steps : List Step) × (slice_get rows number ≡ Some (Some steps))
is_there rows number None within at some = absurd cc
is_there rows number (Some steps) within at some = (steps, slice_get-get_or rows number (Some steps) within ∙ ap Some (sym at))

-- ---- steps by their labels

find_map : {A B : Type 0} (f : A → B) (p : B → Bool) (xs : List A) → find p (map f xs) ≡ option_map f (find (λ x. p (f x)) xs)
find_map f p [] = refl
find_map f p (x ∷ xs) = by (p (f x)) (find_map f p xs)
  where
    by : (b : Bool) → find p (map f xs) ≡ option_map f (find (λ y. p (f y)) xs)
        → cond b (Some (f x)) (find p (map f xs)) ≡ option_map f (cond b (Some x) (find (λ y. p (f y)) xs))
    by true later = refl
    by false later = later

pub step_with : (plant : PlantData) (states : List AbsState) (number : ℕ) (state : AbsState) (steps : List Step) (is_label : MoveLabel → Bool)
    → slice_get states number ≡ Some state → AreSteps plant states number steps
    → option_map (going_of states number) (find (λ step. is_label step.label) steps) ≡ move_with plant state is_label
step_with plant states number state steps is_label at made =
    sym (find_map (going_of states number) (λ going. is_label going.move.label) steps)
    ∙ (ap (find (λ going. is_label going.move.label)) made.are
    ∙ ap (λ s. find (λ going. is_label going.move.label) (goings_from plant s)) (state_from states number state at))

pub found_listed : (P : Step → Type 0) (p : Step → Bool) (steps : List Step) → AllByRecursion P steps → IfSome (find p steps) P
found_listed P p [] all = tt
found_listed P p (step ∷ steps) all = by (p step) (found_listed P p steps all.1)
  where
    by : (b : Bool) → IfSome (find p steps) P → IfSome (cond b (Some step) (find p steps)) P
    by true rest = all.0
    by false rest = rest
