use Rattle.std.proofs.Common.{◌+◌, [], ◌∷◌, ◌++◌, map, sym, refl}
use Rattle.std.specs.List.{range_with_len}
use Rattle.row_build.specs.declared.kinds.RowKind.TheVariants.{Passes}
use Rattle.row_build.specs.Families as words
use Rattle.row_build.specs.Working.Kinds.{IsKind, row_of}
use Rattle.row_build.proofs.Growing.{adds_one, adds_like, map_numbers_more}
use Rattle.row_build.proofs.families.push_passing.Goals as goal

pub loop-node-preserved : goal.loop-node-preserved
loop-node-preserved c =
    let plant = c.args.plant.now in let states = c.args.states.now in let instances = c.args.instances.now in let task = c.args.task in let n = c.loop-node.node in
    adds_like (row_of plant states instances task) (IsKind plant states instances) c.args.kinds.now c.push.new.self
    (map (words.passes plant) (range_with_len 0 n) ++ words.passes plant n ∷ []) (map (words.passes plant) (range_with_len 0 (n + 1))) (sym (map_numbers_more (words.passes plant) n))
    (adds_one (row_of plant states instances task) (IsKind plant states instances) c.args.kinds.now c.loop-node.kinds c.push.new.self (map (words.passes plant) (range_with_len 0 n))
    (Passes n) (words.passes plant n) c.loop-node.invariant c.in_ok-push.ensures.ok refl tt)
