-- States that are the same, in their order.
use Rattle.std.proofs.Common.{◌≡◌, Bool, List, Contains, refl, sym, ap, subst}
use Rattle.std.specs.Cmp.{IsEquivalence}
use Rattle.std.specs.List.{list_any}
use Rattle.std.proofs.lemmas.Map.Views.{Contains-from_any, list_any-from_Contains}
use Rattle.std.specs.Ordering.{is_eq}
use Rattle.std.specs.Bool.{Decides, one_answer}
use Rattle.abstract_sched.specs.declared.states.AbsState.{AbsState}
use Rattle.abstract_sched.specs.States.{same_state}
use Rattle.abstract_sched.specs.contracts.states.AbsStateOrd.TheImpl as order
use Rattle.abstract_sched.specs.contracts.states.AbsStateOrd.TheImpl.Laws as laws
use Rattle.abstract_sched.proofs.Sameness.{states, state_Decides}

pub symmetric : (a b : AbsState) → same_state a b ≡ same_state b a
symmetric a b =
    let from = state_Decides a b in let to = state_Decides b a in
    one_answer (same_state a b) (same_state b a) from (λ is. sym (to.0 is), λ e. to.1 (sym e))

pub tied : (a b : AbsState) → same_state a b ≡ is_eq (order.cmp-value.it a b)
tied a b = subst (λ (test : AbsState → AbsState → Bool). test a b ≡ is_eq (order.cmp-value.it a b)) states (laws.matches_eq-law a b)

-- what is found is listed, and what is listed is found
pub found_Decides : (states : List AbsState) (state : AbsState) → Decides (list_any (same_state state) states) (Contains states state)
found_Decides xs state =
    (Contains-from_any (λ x y. (state_Decides x y).0) state xs, list_any-from_Contains equivalence state xs)
  where
    equivalence : IsEquivalence same_state
    equivalence = record {
      refl = λ a. (state_Decides a a).1 refl;
      symm = symmetric;
      congr = λ a b c is. ap (λ s. same_state s c) ((state_Decides a b).0 is);
    }
