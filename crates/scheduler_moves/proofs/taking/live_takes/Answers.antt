use Rattle.std.proofs.Common.{sym, ◌∙◌}
use Rattle.osek_kernel.specs.Sources.{source_at, is_live}
use Rattle.scheduler_moves.specs.Moves.{take_move}
use Rattle.scheduler_moves.proofs.MappedLists.{pushed_more, kept_more}
use Rattle.scheduler_moves.proofs.taking.live_takes.Goals as goal
use Rattle.scheduler_moves.proofs.taking.live_takes.Goals.{then-lives+in_ok-take_move+in_ok-push, else-lives}

pub loop-source-preserved : goal.loop-source-preserved
loop-source-preserved c =
    let plant = c.args.plant.now in let state = c.args.state.now in let n = c.loop-source.source in
    elim c.if-lives.branch [
      | then-lives+in_ok-take_move+in_ok-push w ↦
          pushed_more (take_move plant state) (λ source. is_live plant.system state.mode (source_at plant.system source)) n c.loop-source.moves
          c.if-lives.moves
          w.in_ok-take_move.field-0 (sym c.lives.ensures ∙ w.if-lives.true) c.loop-source.invariant w.in_ok-take_move.ensures
          (w.moves-is ∙ w.in_ok-push.ensures.ok)
      | else-lives w ↦
          kept_more (take_move plant state) (λ source. is_live plant.system state.mode (source_at plant.system source)) n c.loop-source.moves c.if-lives.moves
          (sym c.lives.ensures ∙ w.if-lives.false) c.loop-source.invariant w.moves-is
    ]
