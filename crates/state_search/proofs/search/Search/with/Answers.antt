use Rattle.std.proofs.Common.{◌≡◌, true, cond, [], ◌∷◌, ◌++◌, sym, ◌∙◌, subst}
use Rattle.std.specs.BTreeSet.{contains}
use Rattle.std.specs.Ordering.{is_eq}
use Rattle.abstract_sched.specs.declared.states.AbsState.{AbsState}
use Rattle.abstract_sched.specs.contracts.states.AbsStateOrd.TheImpl as order
use Rattle.state_search.specs.Working.Found.{Adds}
use Rattle.state_search.proofs.Sets.{was_found, is_found, inserted}
use Rattle.state_search.proofs.search.Search.with.Goals as goal

pub returns-then-contains : goal.returns-then-contains
returns-then-contains c =
    subst (λ s. Adds c.args.state s (record { states = c.self.inside.list.items; done = c.self.inside.done })) c.self.view_is
    (was_found c.self.inside.set _ c.args.state c.self.invariant (sym c.contains.ensures ∙ c.if-contains.true))

pub invariant_of-result-2 : goal.invariant_of-result-2
invariant_of-result-2 c =
    rw c.in_ok-push.ensures.items
    (inserted c.self.inside.set c.insert.new.self c.self.inside.list.items c.args.state c.self.invariant
    (sym c.contains.ensures ∙ c.if-contains.false) (subst (λ s. (k : AbsState) → contains order.cmp-value.it c.insert.new.self k
    ≡ cond (is_eq (order.cmp-value.it s k)) true (contains order.cmp-value.it c.self.inside.set k)) c.in_ok-copied.ensures c.in_ok-_added.ensures.updates.0))

pub returns : goal.returns
returns c =
    rw c.in_ok-push.ensures.items
    (subst (λ s. Adds c.args.state s (record { states = c.self.inside.list.items ++ c.args.state ∷ []; done = c.self.inside.done })) c.self.view_is
    (is_found c.self.inside.list.items c.self.inside.done c.args.state))
