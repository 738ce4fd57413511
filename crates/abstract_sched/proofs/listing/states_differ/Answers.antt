use Rattle.std.proofs.Common.{IfOk, ◌≡◌, subst}
use Rattle.listed.specs.Lists.{differ}
use Rattle.abstract_sched.proofs.Sameness.{states}
use Rattle.abstract_sched.proofs.listing.states_differ.Goals as goal

pub returns : goal.returns
returns c = subst (λ test. IfOk c.all_differ.result (λ all. all ≡ differ test c.args.states.now)) states c.all_differ.ensures
