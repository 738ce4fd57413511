use Rattle.std.proofs.Common.{◌∙◌}
use Rattle.row_build.proofs.backs.is_back.Goals as goal

pub returns : goal.returns
returns c = c.contains.ensures ∙ c.requires.same (c.args.along.node, c.args.along.place)
