-- States of a list, by their numbers.
use Rattle.std.proofs.Common.{◌≡◌, ℕ, ◌+◌, ◌<◌, Bool, true, false, not, ◌==◌, cond, List, [], ◌∷◌, length, map, take, get_or, Contains, Some, None, Result, Ok, Err, All, refl, sym, ap, ◌∙◌, subst, arith, zero, suc, inl, inr, ◌⊎◌}
use Rattle.std.specs.Prelude.{slice_get, ◌&&◌}
use Rattle.std.proofs.lemmas.Bool.{eq-eqb, ne_eqb, cases_eq}
use Rattle.std.specs.List.{list_any}
use Rattle.std.proofs.lemmas.List.Folds.{list_any_at}
use Rattle.listed.specs.Lists.{differ}
use Rattle.std.specs.BTreeMap.{BTreeMap, get}
use Rattle.std.specs.Ordering.{is_eq}
use Rattle.std.proofs.lemmas.List.{take_more, get_or_default}
use Rattle.std.proofs.lemmas.List.Elements.{Contains-append_cases}
use Rattle.std.specs.Option.{unwrap_or}
use Rattle.std.proofs.lemmas.Option.{slice_get-get_or, unwrap_or-slice_get, slice_get_within}
use Rattle.abstract_sched.specs.declared.states.AbsState.{AbsState}
use Rattle.abstract_sched.specs.States.{same_state}
use Rattle.abstract_sched.specs.contracts.states.AbsStateOrd.TheImpl as order
use Rattle.abstract_sched.proofs.Sameness.{state_Decides}
use Rattle.scheduler_moves.proofs.Listings.{symmetric, tied}
use Rattle.wcet_atomic_blocks.specs.Plants.{PlantData}
use Rattle.scheduler_moves.specs.declared.moves.Misuse.{Misuse}
use Rattle.scheduler_moves.specs.declared.moves.Move.{Move}
use Rattle.scheduler_moves.specs.Closed.{AreListed}
use Rattle.scheduler_moves.specs.Moves.{successors, initial}
use Rattle.row_build.specs.Columns.{goings_from, moves_or_none}
use Rattle.row_build.specs.Working.Numbered.{AreNumbers, IsMode, state_at, no_state}

equal_from : (a b : AbsState) → is_eq (order.cmp-value.it a b) ≡ true → a ≡ b
equal_from a b is = (state_Decides a b).0 (tied a b ∙ is)

differ_from : (a b : AbsState) → is_eq (order.cmp-value.it a b) ≡ false → a ≡ b → ⊥
differ_from a b is e = absurd (true_is (sym ((state_Decides a b).1 e) ∙ (tied a b ∙ is)))
  where
    true_is : true ≡ false → ⊥
    true_is is = absurd cc

some_not_none : {X : Type 0} (x : X) → Some x ≡ None → ⊥
some_not_none x e = absurd cc

same_some : {X : Type 0} (x y : X) → Some x ≡ Some y → x ≡ y
same_some x y e = cc

in_one : {X : Type 0} (x y : X) → Contains (x ∷ []) y → x ≡ y
in_one x y c = at_first c.0 c.1 c.2
  where
    at_first : (i : ℕ) → i < 1 → get_or (x ∷ []) i y ≡ y → x ≡ y
    at_first zero within is = is
    at_first (suc i) within is = absurd (omega (arith, within))

-- one more state is numbered
pub numbers_more : (old new : BTreeMap AbsState ℕ) (states : List AbsState) (number : ℕ) (state : AbsState)
    → number < length states → state ≡ get_or states number state
    → ((q : AbsState) → get order.cmp-value.it new q ≡ cond (is_eq (order.cmp-value.it state q)) (Some number) (get order.cmp-value.it old q))
    → AreNumbers old states number → AreNumbers new states (number + 1)
numbers_more old new states number state within at updates were = record {
  found = λ q n e. found q n (is_eq (order.cmp-value.it state q)) refl (sym (updates q) ∙ e);
  none = λ q e c. none q (is_eq (order.cmp-value.it state q)) refl (sym (updates q) ∙ e)
      (Contains-append_cases (take number states) (get_or states number state ∷ []) q (subst (λ xs. Contains xs q) (take_more states number state within) c));
}
  where
    found : (q : AbsState) (n : ℕ) (b : Bool) → is_eq (order.cmp-value.it state q) ≡ b
        → cond (is_eq (order.cmp-value.it state q)) (Some number) (get order.cmp-value.it old q) ≡ Some n → slice_get states n ≡ Some q
    found q n true is e =
        let whole : Some number ≡ Some n = rw is at e in
        ap (slice_get states) (sym (same_some number n whole)) ∙ slice_get-get_or states number state within ∙ ap Some (sym at ∙ equal_from state q is)
    found q n false is e = were.found q n (rw is at e)

    none : (q : AbsState) (b : Bool) → is_eq (order.cmp-value.it state q) ≡ b
        → cond (is_eq (order.cmp-value.it state q)) (Some number) (get order.cmp-value.it old q) ≡ None
        → Contains (take number states) q ⊎ Contains (get_or states number state ∷ []) q → ⊥
    none q true is e _ = some_not_none number (rw is at e)
    none q false is e (inl before) = were.none q (rw is at e) before
    none q false is e (inr last) = differ_from state q is (at ∙ in_one (get_or states number state) q last)

-- the state of a number, however it is got
pub state_is : (states : List AbsState) (number : ℕ) (state : AbsState) → number < length states → state ≡ get_or states number state
    → state_at states number ≡ state
state_is states number state within at = get_or_default states number no_state state within ∙ sym at

-- ---- The moves of a state of a closed list

pub listed_from : (plant : PlantData) (states : List AbsState) (state other : AbsState) (moves : List Move) → other ≡ state
    → AreListed states (successors plant other) → successors plant state ≡ Ok moves → All (λ move. Contains states move.to) moves
listed_from plant states state other moves same stays is =
    subst (λ (answer : Result (List Move) Misuse). AreListed states answer) is (subst (λ (s : AbsState). AreListed states (successors plant s)) same stays)

pub never_misused : (plant : PlantData) (states : List AbsState) (state other : AbsState) (misuse : Misuse) → other ≡ state
    → AreListed states (successors plant other) → successors plant state ≡ Err misuse → ⊥
never_misused plant states state other misuse same stays is =
    subst (λ (answer : Result (List Move) Misuse). AreListed states answer) is (subst (λ (s : AbsState). AreListed states (successors plant s)) same stays)

pub goings_are : (plant : PlantData) (state other : AbsState) (moves : List Move) → other ≡ state → successors plant state ≡ Ok moves
    → map (λ made. record { from = other; move = made }) moves ≡ goings_from plant other
goings_are plant state other moves same is =
    let at : successors plant other ≡ Ok moves = ap (successors plant) same ∙ is in
    ap (λ answer. map (λ made. record { from = other; move = made }) (moves_or_none answer)) (sym at)

-- a state that is found at a number
pub state_from : (states : List AbsState) (number : ℕ) (state : AbsState) → slice_get states number ≡ Some state → state_at states number ≡ state
state_from states number state at = sym (unwrap_or-slice_get states number no_state) ∙ ap (λ s. unwrap_or s no_state) at

pub mode_is : (plant : PlantData) (states : List AbsState) (mode after : ℕ) (state : AbsState) → slice_get states after ≡ Some state → state ≡ initial plant mode
    → IsMode plant states mode after
mode_is plant states mode after state at is = record { within = slice_get_within states after state at; is = state_from states after state at ∙ is }

-- ---- States that differ

true_false : true ≡ false → ⊥
true_false e = absurd cc

other_than : (state : AbsState) (states : List AbsState) (j : ℕ) → list_any (same_state state) states ≡ false → j < length states
    → same_state state (get_or states j no_state) ≡ false
other_than state states j none within = last (same_state state (get_or states j no_state)) refl
  where
    last : (b : Bool) → same_state state (get_or states j no_state) ≡ b → same_state state (get_or states j no_state) ≡ false
    last true is = absurd (true_false (sym (list_any_at (same_state state) states j no_state within is) ∙ none))
    last false is = is

-- the first of two parts of a conjunction
first_false : (a b : Bool) → (not a && b) ≡ true → a ≡ false
first_false true b is = absurd (true_false (sym is))
first_false false b is = refl

second_true : (a b : Bool) → (not a && b) ≡ true → b ≡ true
second_true true b is = absurd (true_false (sym is))
second_true false b is = is

one_less : (i j : ℕ) → (i ≡ j) ⊎ (i ≡ j → ⊥) → (suc i == suc j) ≡ (i == j)
one_less i j (inl e) = eq-eqb (suc i) (suc j) (ap suc e) ∙ sym (eq-eqb i j e)
one_less i j (inr n) = ne_eqb (suc i) (suc j) (λ e. n (omega (arith, e))) ∙ sym (ne_eqb i j n)

pub same_by_number : (states : List AbsState) (i j : ℕ) → differ same_state states ≡ true → i < length states → j < length states
    → (i == j) ≡ same_state (state_at states i) (state_at states j)
same_by_number [] i j all within within' = absurd (omega (arith, within))
same_by_number (state ∷ states) zero zero all within within' = sym ((state_Decides state state).1 refl)
same_by_number (state ∷ states) zero (suc j) all within within' =
    ne_eqb 0 (suc j) (λ e. absurd (omega (arith, e)))
    ∙ sym (other_than state states j (first_false (list_any (same_state state) states) (differ same_state states) all) (omega (arith, within')))
same_by_number (state ∷ states) (suc i) zero all within within' =
    ne_eqb (suc i) 0 (λ e. absurd (omega (arith, e)))
    ∙ sym (symmetric (get_or states i no_state) state
    ∙ other_than state states i (first_false (list_any (same_state state) states) (differ same_state states) all) (omega (arith, within)))
same_by_number (state ∷ states) (suc i) (suc j) all within within' =
    one_less i j (cases_eq i j)
    ∙ same_by_number states i j (second_true (list_any (same_state state) states) (differ same_state states) all) (omega (arith, within)) (omega (arith, within'))
