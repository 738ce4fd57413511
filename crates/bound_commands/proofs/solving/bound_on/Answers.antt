use Rattle.std.proofs.Common.{ℕ, List, inl, inr, refl, subst}
use Rattle.abstract_sched.specs.declared.states.AbsState.{AbsState}
use Rattle.command_steps.specs.Steps.{Says}
use Rattle.bound_commands.specs.Solving.{AnswersTask, bound_saying}
use Rattle.inputs.proofs.Halts.{err_is}
use Rattle.bound_commands.proofs.solving.bound_on.Goals as goal

pub returns-in_err-listed : goal.returns-in_err-listed
returns-in_err-listed g c =
    let halt = c.in_err-listed.field-0.0 in
    inr (halt, c.in_err-listed.ensures.steps, err_is c.from_residual.result halt c.from_residual.ensures.0 c.from_residual.ensures.1)

pub returns : goal.returns
returns g c =
    let analysed = c.args.analysed.now in
    let listed = c.in_ok-listed.listed in
    let named = subst
    (λ (name : List ℕ). Says (AnswersTask (bound_saying name) c.args.pivots analysed c.as_slice.result.now) c.bound_line.result)
    c.as_bytes-name.ensures.value c.bound_line.ensures in
    let says = subst
    (λ (states : List AbsState). Says (AnswersTask (bound_saying c.args.name.now) c.args.pivots analysed states) c.bound_line.result)
    c.as_slice.ensures named in
    inl (listed, c.closed_states.new.files, c.in_ok-listed.ensures.steps, (refl, says))
