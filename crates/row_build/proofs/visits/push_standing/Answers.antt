use Rattle.std.proofs.Common.{◌++◌, map}
use Rattle.std.specs.Prelude.{filter}
use Rattle.std.specs.List.{flat_map, list_any, range_with_len}
use Rattle.osek_kernel.specs.Contexts.{context_at, context_count}
use Rattle.row_build.specs.Families as words
use Rattle.row_build.specs.Working.Kinds.{IsKind, row_of}
use Rattle.row_build.proofs.ColumnLists.{standing_is}
use Rattle.row_build.proofs.Growing.{adds_both, adds_like}
use Rattle.row_build.proofs.visits.push_standing.Goals as goal

pub returns : goal.returns
returns c =
    let plant = c.args.plant.now in let states = c.args.states.now in let instances = c.args.instances.now in let task = c.args.task in let nodes = c.args.nodes.now in
    let first = flat_map (words.standing_at plant task) nodes in
    let second = map (words.stands_once plant) (filter (λ context. list_any (words.is_owned plant context) nodes) (map (context_at plant.system) (range_with_len 0 (context_count plant.system)))) in
    adds_like (row_of plant states instances task) (IsKind plant states instances) c.args.kinds.now c.push_owners.new.kinds (first ++ second) (words.standing plant states task)
    (standing_is plant states task nodes c.requires.are)
    (adds_both (row_of plant states instances task) (IsKind plant states instances) c.args.kinds.now c.push_nodes.new.kinds c.push_owners.new.kinds first second
    c.in_ok-push_nodes.ensures c.in_ok-push_owners.ensures)
