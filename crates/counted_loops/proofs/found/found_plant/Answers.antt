-- A plant stays one with found bounds.
use Rattle.std.proofs.Common.{◌≡◌, ℕ, List, Option, sym, subst}
use Rattle.timing_file.specs.declared.timing.Timing.{Timing}
use Rattle.wcet_atomic_blocks.specs.Plants.{PlantData, IsPlant}
use Rattle.counted_loops.specs.Counted.{AreFound}
use Rattle.counted_loops.specs.Found.{found_timing}
use Rattle.counted_loops.proofs.Keeping.{as_many, bounds_small, plant_stays}
use Rattle.counted_loops.proofs.found.found_plant.Goals as goal

found_in : (one other : PlantData) (found : List (Option ℕ)) → one ≡ other → AreFound other.image other.system other.flow other.timing.loops found
    → AreFound one.image one.system one.flow one.timing.loops found
found_in one other found same are = subst (λ (p : PlantData). AreFound p.image p.system p.flow p.timing.loops found) (sym same) are

stays_with : (plant : PlantData) (found : List (Option ℕ)) (timing : Timing) → IsPlant plant → AreFound plant.image plant.system plant.flow plant.timing.loops found
    → timing ≡ found_timing plant.timing found → IsPlant (record plant { timing = timing })
stays_with plant found timing belongs are same = subst (λ (t : Timing). IsPlant (record plant { timing = t })) (sym same) (plant_stays plant found belongs are)

pub found_timing-requires-clause-count : goal.found_timing-requires-clause-count
found_timing-requires-clause-count c =
    let inside = c.plant.inside in
    as_many (record { image = inside.image; system = inside.system; timing = inside.timing; flow = inside.flow; blocks = inside.blocks }) c.args.found.now
    (found_in _ c.args.plant c.args.found.now c.plant.view_is c.requires)

pub found_timing-requires-clause-bounds : goal.found_timing-requires-clause-bounds
found_timing-requires-clause-bounds c =
    let inside = c.plant.inside in
    bounds_small (record { image = inside.image; system = inside.system; timing = inside.timing; flow = inside.flow; blocks = inside.blocks }) c.args.found.now
    c.plant.invariant (found_in _ c.args.plant c.args.found.now c.plant.view_is c.requires)

pub invariant_of-result : goal.invariant_of-result
invariant_of-result c =
    let inside = c.plant.inside in
    stays_with (record { image = inside.image; system = inside.system; timing = inside.timing; flow = inside.flow; blocks = inside.blocks }) c.args.found.now
    c.in_ok-timing.timing c.plant.invariant (found_in _ c.args.plant c.args.found.now c.plant.view_is c.requires) c.in_ok-timing.ensures
