-- No entry is wide where none is counted.
use Rattle.std.proofs.Common.{◌≡◌, arith}
use Rattle.std.proofs.lemmas.Bool.Decides.{nat_tests}
use Rattle.whole_rows.specs.Working.Wide.{wide_count}
use Rattle.whole_rows.proofs.FirstPlaces.{narrow_from_count, count_from_narrow}
use Rattle.whole_rows.proofs.row.Row.is_narrow.Goals as goal

pub returns : goal.returns
returns c =
    let counted : c.self.inside.wide ≡ wide_count c.self.inside.entries.items = c.self.invariant.1 in
    let same : c.self.inside.entries.items ≡ c.args.self.now = c.self.view_is in
    let count : c.self.inside.wide ≡ wide_count c.args.self.now = rw (← same) counted in (
      λ none. narrow_from_count c.args.self.now (grind (arith, nat_tests)),
      λ all. let zero : c.self.inside.wide ≡ 0 = omega (arith, count_from_narrow c.args.self.now all) in grind (arith, nat_tests),
    )
