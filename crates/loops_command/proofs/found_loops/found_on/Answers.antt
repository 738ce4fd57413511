-- The list of states was read, or it ended the command.
use Rattle.std.proofs.Common.{ℕ, List, inl, inr, refl, subst}
use Rattle.abstract_sched.specs.declared.states.AbsState.{AbsState}
use Rattle.command_steps.specs.Steps.{Says}
use Rattle.inputs.proofs.Halts.{err_is}
use Rattle.loops_command.specs.Loops.{AnswersLoops}
use Rattle.loops_command.proofs.found_loops.found_on.Goals as goal

pub returns-in_err-listed : goal.returns-in_err-listed
returns-in_err-listed g c = let halt = c.in_err-listed.field-0.0 in
    inr (halt, c.in_err-listed.ensures.steps, err_is c.from_residual.result halt c.from_residual.ensures.0 c.from_residual.ensures.1)

pub returns : goal.returns
returns g c =
    let says = subst (λ (states : List AbsState). Says (AnswersLoops c.args.name.now c.args.loops.now states) c.answer.result) c.as_slice.ensures c.answer.ensures in
    inl (c.in_ok-listed.listed, c.closed_states.new.files, c.in_ok-listed.ensures.steps, (refl, says))
