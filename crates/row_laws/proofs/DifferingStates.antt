-- Among states that differ one at most is the same as another one.
use Rattle.std.proofs.Common.{◌≡◌, ◌+◌, ◌≤◌, Bool, true, false, List, [], ◌∷◌, refl, ap, ◌∙◌, subst, arith}
use Rattle.std.specs.Prelude.{not}
use Rattle.std.specs.List.{count_by, list_any}
use Rattle.std.proofs.lemmas.Bool.{and_parts, not-true, or_parts}
use Rattle.std.proofs.lemmas.List.Sums.{sum_by-cons}
use Rattle.listed.specs.Lists.{differ}
use Rattle.abstract_sched.specs.declared.states.AbsState.{AbsState}
use Rattle.abstract_sched.specs.States.{same_state}
use Rattle.abstract_sched.proofs.Sameness.{state_Decides}
use Rattle.scheduler_moves.proofs.Listings.{symmetric}
use Rattle.row_laws.proofs.Totals.{one}

none-same : (state : AbsState) (states : List AbsState) → list_any (same_state state) states ≡ false → count_by (λ s. same_state s state) states ≡ 0
none-same state [] none = refl
none-same state (other ∷ states) none =
    let parts = or_parts (same_state state other) (list_any (same_state state) states) none in
    let first : same_state other state ≡ false = symmetric other state ∙ parts.0 in
    sum_by-cons (λ s. one (same_state s state)) other states ∙ rw (first, none-same state states parts.1) refl

pub same-once : (states : List AbsState) (state : AbsState) → differ same_state states ≡ true → count_by (λ s. same_state s state) states ≤ 1
same-once [] state apart = omega arith
same-once (first ∷ states) state apart = by (same_state first state) refl (same-once states state parts.1)
  where
    parts : (not (list_any (same_state first) states) ≡ true) × (differ same_state states ≡ true)
    parts = and_parts (not (list_any (same_state first) states)) (differ same_state states) apart

    whole : count_by (λ s. same_state s state) (first ∷ states) ≡ one (same_state first state) + count_by (λ s. same_state s state) states
    whole = sum_by-cons (λ s. one (same_state s state)) first states

    by : (b : Bool) → same_state first state ≡ b → count_by (λ s. same_state s state) states ≤ 1 → count_by (λ s. same_state s state) (first ∷ states) ≤ 1
    by true is rest =
        let others : count_by (λ s. same_state s state) states ≡ 0 =
        subst (λ t. count_by (λ s. same_state s t) states ≡ 0) ((state_Decides first state).0 is)
        (none-same first states (not-true (list_any (same_state first) states) parts.0)) in
        let once = ap one is in omega (arith, whole)
    by false is rest = let none = ap one is in omega (arith, whole)
