use Rattle.std.proofs.Common.{inl, List, All, length, ◌∙◌, sym, ap, subst, arith}
use Rattle.cut_search.specs.declared.limits.Limits.{Limits}
use Rattle.cut_search.specs.Leaves.{sides_of}
use Rattle.cut_search.specs.Working.Limits.{IsFree}
use Rattle.cut_search.specs.Working.Searching.{AreLimits, IsGoodPart, IsNodeRay}
use Rattle.cut_search.proofs.Roots.{free_all, root_good, root_lawful, root_limits, root_ray, root_sides}
use Rattle.cut_search.proofs.finding.find_tree.Goals as goal

pub search-requires-clause-limits : goal.search-requires-clause-limits
search-requires-clause-limits c =
    subst (AreLimits c.args.rows.now) (sym (c.as_mut_slice.ensures.value ∙ c.in_ok-limits.ensures)) (root_limits c.args.rows.now c.args.columns.now c.requires.columns)

pub search-requires-clause-few : goal.search-requires-clause-few
search-requires-clause-few c =
    let none = ap length (ap sides_of (c.as_mut_slice.ensures.value ∙ c.in_ok-limits.ensures) ∙ root_sides c.args.columns.now) in
    omega (arith, c.requires.few)

pub search-requires-clause-bounded : goal.search-requires-clause-bounded
search-requires-clause-bounded c = inl (subst (All IsFree) (sym (c.as_mut_slice.ensures.value ∙ c.in_ok-limits.ensures)) (free_all c.args.columns.now))

pub returns-in-Ok-clause-good : goal.returns-in-Ok-clause-good
returns-in-Ok-clause-good c =
    root_good c.args.rows.now c.args.bound c.args.columns.now c.in-Ok.part.tree
    (subst (λ (limits : List Limits). IsGoodPart c.args.rows.now c.args.bound (sides_of limits) c.in-Ok.part.tree) (c.as_mut_slice.ensures.value ∙ c.in_ok-limits.ensures) c.in-Ok.ensures.good)

pub returns-clause-ray : goal.returns-clause-ray
returns-clause-ray c =
    root_ray c.args.rows.now c.args.columns.now c.in-Err.fault
    (subst (λ (limits : List Limits). IsNodeRay c.args.rows.now limits c.in-Err.fault) (c.as_mut_slice.ensures.value ∙ c.in_ok-limits.ensures) c.in-Err.ensures.ray)

pub returns-in-Ok-clause-lawful : goal.returns-in-Ok-clause-lawful
returns-in-Ok-clause-lawful c = λ some. root_lawful c.args.cuts c.in-Ok.part.tree c.requires.few (c.in-Ok.ensures.lawful some)
