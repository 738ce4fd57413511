-- States that were found, with the set by which they are found again.
use Rattle.std.proofs.Common.{◌≡◌, ℕ, Bool, true, false, cond, List, [], ◌∷◌, ◌++◌, refl, sym, ◌∙◌}
use Rattle.std.specs.BTreeSet.{BTreeSet, contains}
use Rattle.std.specs.List.{list_any}
use Rattle.std.specs.Ordering.{is_eq}
use Rattle.std.specs.Prelude.{◌||◌}
use Rattle.std.proofs.lemmas.List.{append-nil}
use Rattle.std.proofs.lemmas.List.Elements.{All-nil, All-cons, Contains-push}
use Rattle.std.proofs.lemmas.List.Folds.{list_any-append}
use Rattle.listed.proofs.Apart.{differ-push}
use Rattle.abstract_sched.specs.declared.states.AbsState.{AbsState}
use Rattle.abstract_sched.specs.States.{same_state}
use Rattle.abstract_sched.specs.contracts.states.AbsStateOrd.TheImpl as order
use Rattle.scheduler_moves.proofs.Listings.{symmetric, tied, found_Decides}
use Rattle.state_search.specs.Searching.{SearchData}
use Rattle.state_search.specs.Working.Found.{AreFound, Adds}

pub was_found : (set : BTreeSet AbsState) (search : SearchData) (state : AbsState) → AreFound set search.states
    → contains order.cmp-value.it set state ≡ true → Adds state search search
was_found set search state found is = record {
  more = [];
  is = sym (append-nil search.states);
  only = All-nil _;
  has = (found_Decides search.states state).0 (sym (found.members state) ∙ is);
  done = refl;
}

either : (b a : Bool) → cond b true a ≡ (a || (b || false))
either true true = refl
either true false = refl
either false true = refl
either false false = refl

-- one more
pub inserted : (before after : BTreeSet AbsState) (states : List AbsState) (state : AbsState) → AreFound before states
    → contains order.cmp-value.it before state ≡ false
    → ((k : AbsState) → contains order.cmp-value.it after k ≡ cond (is_eq (order.cmp-value.it state k)) true (contains order.cmp-value.it before k))
    → AreFound after (states ++ state ∷ [])
inserted before after states state found new updates = record {
  members = λ k. updates k
      ∙ (rw (found.members k, ← tied state k, symmetric state k, list_any-append (same_state k) states (state ∷ []))
      (either (same_state k state) (list_any (same_state k) states)));
  once = rw (differ-push same_state symmetric states state, found.once, ← found.members state, new) refl;
}

pub is_found : (states : List AbsState) (done : ℕ) (state : AbsState)
    → Adds state (record { states = states; done = done }) (record { states = states ++ state ∷ []; done = done })
is_found states done state = record {
  more = state ∷ [];
  is = refl;
  only = All-cons (λ other. other ≡ state) state [] refl (All-nil (λ other. other ≡ state));
  has = Contains-push states state;
  done = refl;
}
