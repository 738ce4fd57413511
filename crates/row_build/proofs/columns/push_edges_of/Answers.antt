use Rattle.std.proofs.Common.{◌≡◌, ◌<◌, length, subst, sym}
use Rattle.wcet_atomic_blocks.specs.Plants.{PlantData}
use Rattle.row_build.proofs.PlantParts.{leaving_count}
use Rattle.row_build.proofs.columns.push_edges_of.Goals as goal

pub get-leaving-requires : goal.get-leaving-requires
get-leaving-requires c =
    let count : length c.plant.inside.flow.leaving ≡ length c.plant.inside.flow.nodes = leaving_count _ c.plant.invariant in
    let within : c.args.node < length c.plant.inside.flow.nodes = subst (λ (p : PlantData). c.args.node < length p.flow.nodes) (sym c.plant.view_is) c.requires in
    rw count within
