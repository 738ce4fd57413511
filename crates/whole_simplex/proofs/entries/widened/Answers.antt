-- One entry more.
use Rattle.std.proofs.Common.{◌≡◌, ◌++◌, [], ◌∷◌, pos, get_or, sym, subst, rules}
use Rattle.std.specs.Int.{w64, w128}
use Rattle.std.proofs.lemmas.Int.{to_z-of_z}
use Rattle.std.proofs.lemmas.List.Elements.{All-push}
use mir.Val.{SFits}
use Rattle.whole_rows.specs.Row.{IsInRange, AreInRange}
use Rattle.whole_rows.proofs.Combinations.{fits_from_range}
use Rattle.whole_simplex.proofs.Subtracting.{read_more}
use Rattle.whole_simplex.proofs.entries.widened.Goals as goal

pub loop-entry-preserved : goal.loop-entry-preserved
loop-entry-preserved c =
    let row = c.args.narrow.now in
    let i = c.loop-entry.entry-index in
    let fits : SFits w64 (get_or row i (pos 0)) = search rules in
    let at : c.from.result ≡ get_or row i (pos 0) = simp to_z-of_z at c.from.ensures in
    let in_range : IsInRange c.from.result = rw at (search (rules, fits.sfits)) in
    let wide_fits : SFits w128 c.from.result = fits_from_range c.from.result in_range in
    let item : c.push.new.self.items ≡ c.loop-entry.entries.items ++ c.from.result ∷ [] = simp to_z-of_z at c.in_ok-push.ensures.items in (
      read_more row c.loop-entry.entries.items c.push.new.self.items i c.from.result c.loop-entry-test.true c.loop-entry.invariant.0 item at,
      subst AreInRange (sym item) (All-push IsInRange c.loop-entry.entries.items c.from.result c.loop-entry.invariant.1 in_range),
    )
