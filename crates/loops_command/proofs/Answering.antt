-- A refusal of the task's line stands alone.
use Rattle.std.proofs.Common.{◌≡◌, ℕ, List, ◌++◌, Result, Ok, Err, ◌∙◌, ap, subst}
use Rattle.abstract_sched.specs.declared.states.AbsState.{AbsState}
use Rattle.command_steps.specs.declared.halt.Halt.{Halt}
use Rattle.command_steps.specs.declared.halt.Halt.TheVariants.{Refused, Failed, Memory}
use Rattle.command_steps.specs.Steps.{Says}
use Rattle.bound_commands.specs.Solving.{AnswersTask, bound_saying, usual_pivots}
use Rattle.loops_command.specs.declared.found_loops.FoundLoops.{FoundLoops}
use Rattle.loops_command.specs.Loops.{AnswersLoops}

pub refused : (name name' : List ℕ) (loops : FoundLoops) (states : List AbsState) (halt : Halt) → name ≡ name'
    → Says (AnswersTask (bound_saying name) usual_pivots loops.analysed states) (Err halt) → Says (AnswersLoops name' loops states) (Err halt)
refused name name' loops states (Refused refusal) same says =
    subst (λ (n : List ℕ). AnswersTask (bound_saying n) usual_pivots loops.analysed states (Err refusal)) same says
refused name name' loops states (Failed file) same says = says
refused name name' loops states Memory same says = tt

pub said : (name name' : List ℕ) (loops : FoundLoops) (states : List AbsState) (line first next text : List ℕ) → name ≡ name'
    → AnswersTask (bound_saying name) usual_pivots loops.analysed states (Ok line) → text ≡ first ++ next → first ≡ loops.lines → next ≡ line
    → AnswersLoops name' loops states (Ok text)
said name name' loops states line first next text same says is first_is next_is = (
  line,
  subst (λ (n : List ℕ). AnswersTask (bound_saying n) usual_pivots loops.analysed states (Ok line)) same says,
  is ∙ (ap (λ t. t ++ next) first_is ∙ ap (λ t. loops.lines ++ t) next_is),
)
