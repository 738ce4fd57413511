use Rattle.std.proofs.Common.{◌+◌, [], ◌∷◌, ◌++◌, cond, map, sym}
use Rattle.std.specs.Prelude.{filter}
use Rattle.std.specs.List.{range_with_len}
use Rattle.row_build.specs.Families as words
use Rattle.row_build.specs.Working.Kinds.{IsKind, row_of}
use Rattle.row_build.proofs.Growing.{adds_both, adds_like, numbers_more}
use Rattle.row_build.proofs.families.push_arriving.Goals as goal

pub loop-source-preserved : goal.loop-source-preserved
loop-source-preserved c =
    let plant = c.args.plant.now in let states = c.args.states.now in let instances = c.args.instances.now in let task = c.args.task in let n = c.loop-source.source in
    adds_like (row_of plant states instances task) (IsKind plant states instances) c.args.kinds.now c.push_source.new.kinds
    (map (words.arrives plant) (filter (words.is_ever_live plant) (range_with_len 0 n)) ++ map (words.arrives plant) (cond (words.is_ever_live plant n) (n ∷ []) [])) (map (words.arrives plant) (filter (words.is_ever_live plant) (range_with_len 0 (n + 1))))
    (sym (numbers_more (words.arrives plant) (words.is_ever_live plant) n))
    (adds_both (row_of plant states instances task) (IsKind plant states instances) c.args.kinds.now c.loop-source.kinds c.push_source.new.kinds
    (map (words.arrives plant) (filter (words.is_ever_live plant) (range_with_len 0 n))) (map (words.arrives plant) (cond (words.is_ever_live plant n) (n ∷ []) [])) c.loop-source.invariant c.in_ok-push_source.ensures)
