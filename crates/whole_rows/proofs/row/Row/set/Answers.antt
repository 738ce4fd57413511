-- The count goes by the entry that leaves and the one that comes.
use Rattle.std.proofs.Common.{◌≡◌, ◌<◌, length, arith, rules}
use Rattle.std.proofs.lemmas.Int.{to_z-of_z}
use Rattle.std.proofs.lemmas.List.Elements.{All-set}
use Rattle.std.specs.Int.{w64, w128}
use mir.Val.{Fits, SFits}
use Rattle.whole_rows.specs.Row.{IsInRange}
use Rattle.whole_rows.specs.Working.Wide.{wide_of}
use Rattle.whole_rows.proofs.FirstPlaces.{wide_count-set}
use Rattle.whole_rows.proofs.row.Row.set.Goals as goal

pub overflow_add-self : goal.overflow_add-self
overflow_add-self c =
    let row = c.self.inside.entries.items in
    let entry : SFits w128 c.args.entry = c.ranges.entry in
    let within : c.args.i < length c.self.inside.entries.items = search rules in
    let fits : SFits w128 c.index.result.now = search rules in
    let gone : c.wide_of.result ≡ wide_of c.index.result.now = simp to_z-of_z at c.wide_of.ensures in
    let come : c.wide_of-2.result ≡ wide_of c.args.entry = simp to_z-of_z at c.wide_of-2.ensures in
    let long : Fits w64 (length c.self.inside.entries.items) = search rules in
    omega (arith, (wide_count-set row c.args.i c.self.inside.wide c.wide_of.result c.wide_of-2.result c.index.result.now c.args.entry within c.index.ensures gone come c.self.invariant.1).1)

pub invariant_of-self : goal.invariant_of-self
invariant_of-self c =
    let row = c.self.inside.entries.items in
    let entry : SFits w128 c.args.entry = c.ranges.entry in
    let within : c.args.i < length c.self.inside.entries.items = search rules in
    let fits : SFits w128 c.index.result.now = search rules in
    let gone : c.wide_of.result ≡ wide_of c.index.result.now = simp to_z-of_z at c.wide_of.ensures in
    let come : c.wide_of-2.result ≡ wide_of c.args.entry = simp to_z-of_z at c.wide_of-2.ensures in
    simp to_z-of_z (
      All-set IsInRange row c.args.i c.args.entry c.requires.in_range c.self.invariant.0,
      (wide_count-set row c.args.i c.self.inside.wide c.wide_of.result c.wide_of-2.result c.index.result.now c.args.entry within c.index.ensures gone come c.self.invariant.1).0,
    )
