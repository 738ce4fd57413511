use Rattle.std.proofs.Common.{ℕ, ◌+◌, [], ◌∷◌, ◌++◌, Bool, cond, not, map, sym}
use Rattle.std.specs.Prelude.{filter}
use Rattle.std.specs.List.{range_with_len}
use Rattle.row_build.specs.Columns as words
use Rattle.row_build.specs.Working.Numbered.{IsColumn, column_of}
use Rattle.row_build.proofs.Growing.{adds_both, adds_like, numbers_more}
use Rattle.row_build.proofs.columns.push_blocks.Goals as goal

pub loop-block-preserved : goal.loop-block-preserved
loop-block-preserved c =
    let plant = c.args.plant.now in let states = c.args.states.now in let n = c.loop-block.block in
    let test : ℕ → Bool = λ block. not (words.is_own_entry plant c.args.task block) in
    adds_like (column_of states) (IsColumn plant states) c.args.found.now c.push_block.new.found
    (map words.Begins (filter test (range_with_len 0 n)) ++ map words.Begins (cond (test n) (n ∷ []) [])) (map words.Begins (filter test (range_with_len 0 (n + 1))))
    (sym (numbers_more words.Begins test n))
    (adds_both (column_of states) (IsColumn plant states) c.args.found.now c.loop-block.found c.push_block.new.found (map words.Begins (filter test (range_with_len 0 n)))
    (map words.Begins (cond (test n) (n ∷ []) [])) c.loop-block.invariant c.in_ok-push_block.ensures)
