use Rattle.std.proofs.Common.{◌+◌, ◌++◌, get_or, take, sym}
use Rattle.std.specs.List.{flat_map}
use Rattle.row_build.specs.Families as words
use Rattle.row_build.specs.Working.Kinds.{IsKind, row_of}
use Rattle.row_build.proofs.Growing.{adds_both, adds_like, flat_more}
use Rattle.row_build.proofs.visits.push_nodes.Goals as goal

pub loop-number-preserved : goal.loop-number-preserved
loop-number-preserved c =
    let plant = c.args.plant.now in let states = c.args.states.now in let instances = c.args.instances.now in let task = c.args.task in let n = c.loop-number.number in
    adds_like (row_of plant states instances task) (IsKind plant states instances) c.args.kinds.now c.push_node.new.kinds
    (flat_map (words.standing_at plant task) (take n c.args.nodes.now) ++ words.standing_at plant task (get_or c.args.nodes.now n 0)) (flat_map (words.standing_at plant task) (take (n + 1) c.args.nodes.now))
    (sym (flat_more (words.standing_at plant task) c.args.nodes.now n 0 c.loop-number-test.true))
    (adds_both (row_of plant states instances task) (IsKind plant states instances) c.args.kinds.now c.loop-number.kinds c.push_node.new.kinds
    (flat_map (words.standing_at plant task) (take n c.args.nodes.now)) (words.standing_at plant task (get_or c.args.nodes.now n 0)) c.loop-number.invariant c.in_ok-push_node.ensures)
