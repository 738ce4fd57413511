use Rattle.std.proofs.Common.{[], ◌∷◌, map, refl, ap}
use Rattle.row_build.specs.declared.kinds.RowKind.TheVariants.{OneStart}
use Rattle.row_build.specs.Families as words
use Rattle.row_build.specs.Working.Kinds.{IsKind, row_of}
use Rattle.row_build.proofs.ColumnLists.{seven_parts}
use Rattle.row_build.proofs.Growing.{adds_one, adds_none, adds_like}
use Rattle.row_build.proofs.rows_made.kinds.Goals as goal

pub returns : goal.returns
returns c =
    let plant = c.args.plant.now in let states = c.args.states.now in let instances = c.args.instances.now in let task = c.args.task in
    seven_parts (row_of plant states instances task) (IsKind plant states instances) c.new-kinds.result c.push.new.self c.push_leaving.new.kinds c.push_passing.new.kinds
    c.push_standing.new.kinds c.push_beginning.new.kinds c.push_going_round.new.kinds c.push_arriving.new.kinds
    (words.one_start ∷ []) (words.leaving plant states task) (words.passing plant) (words.standing plant states task) (words.beginning plant task) (words.going_round plant)
    (words.arriving plant) c.new-kinds.ensures
    (adds_one (row_of plant states instances task) (IsKind plant states instances) c.new-kinds.result c.new-kinds.result c.push.new.self [] OneStart words.one_start
    (adds_none (row_of plant states instances task) (IsKind plant states instances) c.new-kinds.result) c.in_ok-push.ensures.ok refl tt)
    c.in_ok-push_leaving.ensures c.in_ok-push_passing.ensures c.in_ok-push_standing.ensures c.in_ok-push_beginning.ensures
    (adds_like (row_of plant states instances task) (IsKind plant states instances) c.push_beginning.new.kinds c.push_going_round.new.kinds (map (words.goes_round plant) instances) (words.going_round plant)
    (ap (map (words.goes_round plant)) c.requires.instances) c.in_ok-push_going_round.ensures)
    c.in_ok-push_arriving.ensures
