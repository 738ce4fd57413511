use Rattle.std.proofs.Common.{◌≡◌, ◌∙◌, [], ◌∷◌, map, ap, sym, refl, Bool, cond}
use Rattle.abstract_sched.specs.declared.states.AbsState.{AbsState}
use Rattle.osek_kernel.specs.declared.context.Context.TheVariants as contexts
use Rattle.scheduler_moves.specs.Moves as moves
use Rattle.row_build.specs.Columns as words
use Rattle.row_build.specs.declared.numbered.NumberedStart.TheVariants as numbered
use Rattle.row_build.specs.Working.Numbered.{IsStart, start_of}
use Rattle.row_build.proofs.Growing.{adds_one, adds_none, adds_like, adds_same}
use Rattle.row_build.proofs.States.{mode_is}
use Rattle.row_build.proofs.starts.push_mode.Goals as goal
use Rattle.row_build.proofs.starts.push_mode.Goals.{then-is_active_in+in_ok-push, else-is_active_in}

pub number_of-after-requires-clause-listed : goal.number_of-after-requires-clause-listed
number_of-after-requires-clause-listed c = rw c.in_ok-state.ensures (c.requires.closed.starts c.args.mode c.requires.exists)

pub returns : goal.returns
returns c =
    let plant = c.args.plant.now in let states = c.args.states.now in let mode = c.args.mode in let before = c.args.found.now in
    let active : AbsState → Bool = λ state. words.is_active_in state (contexts.Task c.args.task) in
    let test : c.is_active_in.result ≡ active (moves.initial plant mode) = c.is_active_in.ensures ∙ ap active c.in_ok-state.ensures in
    elim c.if-is_active_in.branch [
      | then-is_active_in+in_ok-push w ↦
          adds_like (start_of states) (IsStart plant states) before c.if-is_active_in.found (words.In mode ∷ []) _ (ap (λ b. map words.In (cond b (mode ∷ []) [])) (sym w.if-is_active_in.true ∙ test))
          (adds_one (start_of states) (IsStart plant states) before before c.if-is_active_in.found [] (numbered.In mode w.number_of-after.result) (words.In mode)
          (adds_none (start_of states) (IsStart plant states) before) (w.found-is ∙ w.in_ok-push.ensures.ok) refl
          (mode_is plant states mode w.number_of-after.result c.in_ok-state.state w.number_of-after.ensures c.in_ok-state.ensures))
      | else-is_active_in w ↦
          adds_like (start_of states) (IsStart plant states) before c.if-is_active_in.found [] _ (ap (λ b. map words.In (cond b (mode ∷ []) [])) (sym w.if-is_active_in.false ∙ test))
          (adds_same (start_of states) (IsStart plant states) before c.if-is_active_in.found w.found-is)
    ]
