use Rattle.std.proofs.Common.{sym, ◌∙◌}
use Rattle.split_trees.proofs.Found.{tree_is_good, tree_fails}
use Rattle.split_trees.proofs.judging.judge_leaves.Goals as goal

pub returns-in-Next : goal.returns-in-Next
returns-in-Next c =
    tree_is_good c.args.rows.now c.args.bound c.in-Next.field-0 c.args.tree.now c.requires.columns (sym c.in_ok-judge_part.ensures ∙ c.in-Next.is)

pub returns-in-Bad : goal.returns-in-Bad
returns-in-Bad c =
    tree_fails c.args.rows.now c.args.bound c.args.tree.now c.in-Bad.leaf c.in-Bad.why c.requires.columns (sym c.in_ok-judge_part.ensures ∙ c.in-Bad.is)
