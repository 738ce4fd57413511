-- The narrow pivot has the pivot's entries.
use Rattle.std.proofs.Common.{List, ℤ, ap, ◌∙◌, sym, length, subst}
use Rattle.whole_simplex.specs.Narrow.{MayEliminate}
use Rattle.whole_simplex.proofs.pivot.eliminate_narrow.Goals as goal

pub eliminate-requires-clause-same : goal.eliminate-requires-clause-same
eliminate-requires-clause-same c =
    let lawful = c.requires.narrow c.in-Some.narrow c.in-Some.is in
    c.requires.same ∙ ap length (sym lawful.0)

pub eliminate-requires-clause-pivot : goal.eliminate-requires-clause-pivot
eliminate-requires-clause-pivot c = let lawful = c.requires.narrow c.in-Some.narrow c.in-Some.is in lawful.1

pub returns-in-Some : goal.returns-in-Some
returns-in-Some c =
    let lawful = c.requires.narrow c.in-Some.narrow c.in-Some.is in
    subst (λ (l : List ℤ). MayEliminate c.args.place l c.args.row.now c.eliminate.new.self c.eliminate.result) lawful.0 c.eliminate.ensures
