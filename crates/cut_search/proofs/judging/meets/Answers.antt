use Rattle.std.proofs.Common.{List, All, ◌∙◌, ap, sym, subst}
use Rattle.whole_rows.specs.Duals.{first_failing_of}
use Rattle.split_trees.specs.Sides.{split_rows}
use Rattle.split_trees.specs.Working.Judging.{IsSmallSide}
use Rattle.split_trees.specs.declared.side.Side.{Side}
use Rattle.cut_search.proofs.LeafNumbers.{sides_small, verdict_meets}
use Rattle.cut_search.proofs.judging.meets.Goals as goal

pub judge_leaf-requires-clause-sides_small : goal.judge_leaf-requires-clause-sides_small
judge_leaf-requires-clause-sides_small c =
    subst (All IsSmallSide) (sym (c.as_slice.ensures ∙ c.in_ok-sides.ensures)) (sides_small c.args.limits.now c.requires.limits.small)

pub returns : goal.returns
returns c =
    let why = c.in_ok-why.ensures ∙ ap (λ (sides : List Side). first_failing_of (split_rows c.args.base.now sides) c.args.multipliers.now c.args.denominator c.args.bound) (c.as_slice.ensures ∙ c.in_ok-sides.ensures) in
    c.is_yes.ensures ∙ verdict_meets c.args.base.now c.args.limits.now c.args.multipliers.now c.args.denominator c.args.bound c.in_ok-why.why c.requires.multipliers why
