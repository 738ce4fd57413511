use Rattle.std.proofs.Common.{ℕ, List, map, ◌∙◌, sym, subst}
use Rattle.std.specs.Prelude.{unsigned_abs}
use Rattle.std.proofs.lemmas.Int.{to_z-of_z}
use Rattle.std.specs.Int.{w128}
use mir.Val.{SFits}
use Rattle.cut_search.specs.Leaves.{leaf_multipliers, sides_of}
use Rattle.cut_search.specs.Working.Searching.{AreLeafMultipliers}
use Rattle.cut_search.proofs.LawfulParts.{decided_lawful}
use Rattle.cut_search.proofs.LeafNumbers.{leaf_of_node}
use Rattle.cut_search.proofs.NodeAnswers.{bounded_by, denominator_fits, good_by, says_by}
use Rattle.cut_search.proofs.judging.judged_leaf.Goals as goal

pub meets-requires-clause-multipliers : goal.meets-requires-clause-multipliers
meets-requires-clause-multipliers c =
    let leaf = leaf_of_node c.args.base.now c.args.limits.now c.args.optimum.now c.row_count-rows.ensures.rows.shape c.requires.optimum in
    let fits : SFits w128 c.args.optimum.now.denominator = denominator_fits c.args.optimum.now.denominator c.requires.optimum.greatest.denominator_small in
    let denominator = simp to_z-of_z at c.unsigned_abs-denominator.ensures.value in
    subst (λ (ms : List ℕ). AreLeafMultipliers c.args.base.now (sides_of c.args.limits.now) ms c.unsigned_abs-denominator.result) (sym (c.as_slice.ensures ∙ c.requires.multipliers))
    (subst (AreLeafMultipliers c.args.base.now (sides_of c.args.limits.now) (leaf_multipliers c.args.base.now c.args.limits.now (map unsigned_abs c.args.optimum.now.multipliers))) (sym denominator) leaf)

pub returns-clause-says : goal.returns-clause-says
returns-clause-says c =
    let fits : SFits w128 c.args.optimum.now.denominator = denominator_fits c.args.optimum.now.denominator c.requires.optimum.greatest.denominator_small in
    let denominator = simp to_z-of_z at c.unsigned_abs-denominator.ensures.value in
    says_by c.args.base.now c.args.bound c.args.limits.now c.args.optimum.now c.in_ok-meets.meets c.decided.result c.unsigned_abs-denominator.result c.args.multipliers c.as_slice.result.now
    c.requires.optimum denominator c.requires.multipliers c.as_slice.ensures c.in_ok-meets.ensures c.decided.ensures

pub returns-clause-good : goal.returns-clause-good
returns-clause-good c =
    let fits : SFits w128 c.args.optimum.now.denominator = denominator_fits c.args.optimum.now.denominator c.requires.optimum.greatest.denominator_small in
    let denominator = simp to_z-of_z at c.unsigned_abs-denominator.ensures.value in
    good_by c.args.base.now c.args.bound c.args.limits.now c.args.optimum.now c.in_ok-meets.meets c.decided.result c.unsigned_abs-denominator.result c.args.multipliers c.as_slice.result.now
    c.row_count-rows.ensures.rows.shape c.requires.optimum denominator c.requires.multipliers c.as_slice.ensures c.in_ok-meets.ensures c.decided.ensures

pub returns-clause-bounded : goal.returns-clause-bounded
returns-clause-bounded c = bounded_by c.args.base.now c.args.limits.now c.args.optimum.now c.decided.result c.row_count-rows.ensures.rows.shape c.requires.optimum

pub returns-clause-lawful : goal.returns-clause-lawful
returns-clause-lawful c =
    let leaf = leaf_of_node c.args.base.now c.args.limits.now c.args.optimum.now c.row_count-rows.ensures.rows.shape c.requires.optimum in
    let fits : SFits w128 c.args.optimum.now.denominator = denominator_fits c.args.optimum.now.denominator c.requires.optimum.greatest.denominator_small in
    let denominator = simp to_z-of_z at c.unsigned_abs-denominator.ensures.value in
    let are : AreLeafMultipliers c.args.base.now (sides_of c.args.limits.now) c.args.multipliers c.unsigned_abs-denominator.result =
    subst (λ (ms : List ℕ). AreLeafMultipliers c.args.base.now (sides_of c.args.limits.now) ms c.unsigned_abs-denominator.result) (sym c.requires.multipliers)
    (subst (AreLeafMultipliers c.args.base.now (sides_of c.args.limits.now) (leaf_multipliers c.args.base.now c.args.limits.now (map unsigned_abs c.args.optimum.now.multipliers))) (sym denominator) leaf) in
    decided_lawful c.args.base.now c.args.limits.now c.args.optimum.now c.in_ok-meets.meets c.unsigned_abs-denominator.result c.args.multipliers c.decided.result c.requires.optimum are c.decided.ensures
