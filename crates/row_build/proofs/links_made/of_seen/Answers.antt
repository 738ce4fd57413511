use Rattle.std.proofs.Common.{map}
use Rattle.row_build.specs.Working.Numbered.{column_of}
use Rattle.row_build.proofs.LinkLists.{links_are}
use Rattle.row_build.proofs.links_made.of_seen.Goals as goal

pub returns : goal.returns
returns c =
    links_are c.args.plant.now c.args.states.now c.args.task c.in_ok-before.before c.in_ok-behind.behind (map (column_of c.args.states.now) c.args.columns.now) c.new-links.result
    c.push_none.new.links c.push_links.new.links c.push_none-2.new.links c.requires.columns.shows c.in_ok-before.ensures c.in_ok-behind.ensures c.new-links.ensures
    c.in_ok-push_none.ensures c.in_ok-push_links.ensures c.in_ok-push_none-2.ensures
