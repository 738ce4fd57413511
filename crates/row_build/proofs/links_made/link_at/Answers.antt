use Rattle.std.proofs.Common.{◌∙◌, map, sym}
use Rattle.row_build.specs.Working.Numbered.{column_of}
use Rattle.row_build.proofs.SeenColumns.{link_seen}
use Rattle.row_build.proofs.links_made.link_at.Goals as goal

pub returns-else-is_first_of : goal.returns-else-is_first_of
returns-else-is_first_of c =
    link_seen c.args.plant.now c.args.task c.args.node (map (column_of c.args.states.now) c.args.columns.now) c.args.seen c.link.result
    (sym c.is_first_of.ensures ∙ c.if-is_first_of.false) c.requires c.link.ensures
