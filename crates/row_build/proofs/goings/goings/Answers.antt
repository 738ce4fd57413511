use Rattle.std.proofs.Common.{[], ◌++◌, ◌+◌, take, sym}
use Rattle.std.specs.List.{flat_map}
use Rattle.row_build.specs.Columns.{goings_from}
use Rattle.row_build.specs.Working.Numbered.{state_at, going_of, IsMove, no_state}
use Rattle.row_build.proofs.Growing.{adds_like, adds_both, flat_more}
use Rattle.row_build.proofs.goings.goings.Goals as goal

pub loop-number-preserved : goal.loop-number-preserved
loop-number-preserved c =
    let states = c.args.states.now in let n = c.loop-number.number in let from = goings_from c.args.plant.now in
    adds_like (going_of states) (IsMove states) [] c.push_from.new.found (flat_map from (take n states) ++ from (state_at states n)) (flat_map from (take (n + 1) states))
    (sym (flat_more from states n no_state c.loop-number-test.true))
    (adds_both (going_of states) (IsMove states) [] c.loop-number.found c.push_from.new.found (flat_map from (take n states)) (from (state_at states n)) c.loop-number.invariant c.in_ok-push_from.ensures)
