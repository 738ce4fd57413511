use Rattle.std.proofs.Common.{ℕ, ◌+◌, [], ◌∷◌, ◌++◌, Bool, cond, map, sym}
use Rattle.std.specs.Prelude.{filter}
use Rattle.std.specs.List.{range_with_len}
use Rattle.osek_kernel.specs.declared.context.Context.TheVariants as contexts
use Rattle.scheduler_moves.specs.Moves as moves
use Rattle.row_build.specs.Columns as words
use Rattle.row_build.specs.Working.Numbered.{IsStart, start_of}
use Rattle.row_build.proofs.Growing.{adds_both, adds_like, numbers_more}
use Rattle.row_build.proofs.starts.push_modes.Goals as goal

pub loop-mode-preserved : goal.loop-mode-preserved
loop-mode-preserved c =
    let plant = c.args.plant.now in let states = c.args.states.now in let n = c.loop-mode.mode in
    let test : ℕ → Bool = λ mode. words.is_active_in (moves.initial plant mode) (contexts.Task c.args.task) in
    adds_like (start_of states) (IsStart plant states) c.args.found.now c.push_mode.new.found
    (map words.In (filter test (range_with_len 0 n)) ++ map words.In (cond (test n) (n ∷ []) [])) (map words.In (filter test (range_with_len 0 (n + 1))))
    (sym (numbers_more words.In test n))
    (adds_both (start_of states) (IsStart plant states) c.args.found.now c.loop-mode.found c.push_mode.new.found (map words.In (filter test (range_with_len 0 n)))
    (map words.In (cond (test n) (n ∷ []) [])) c.loop-mode.invariant c.in_ok-push_mode.ensures)
