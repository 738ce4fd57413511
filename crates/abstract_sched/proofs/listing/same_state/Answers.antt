use Rattle.std.proofs.Common.{Bool, ◌≡◌, subst}
use Rattle.abstract_sched.specs.declared.states.AbsState.{AbsState}
use Rattle.abstract_sched.proofs.Sameness.{states}
use Rattle.abstract_sched.proofs.listing.same_state.Goals as goal

pub returns : goal.returns
returns c = subst (λ (test : AbsState → AbsState → Bool). c.eq.result ≡ test c.args.left.now c.args.right.now) states (c.eq.ensures)
