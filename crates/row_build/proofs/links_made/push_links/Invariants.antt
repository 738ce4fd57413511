use Rattle.std.proofs.Common.{◌≡◌, ◌++◌, map}
use Rattle.std.specs.List.{range_with_len}
use Rattle.row_build.specs.Links.{link_at}
use Rattle.row_build.specs.Working.Numbered.{column_of}
use Rattle.row_build.proofs.links_made.push_links.Given as goal

abbrev pub invariant-loop-node : goal.invariant-loop-node
invariant-loop-node l =
    l.links ≡ l.fn.links ++ map (link_at l.plant l.task (map (column_of l.states) l.columns)) (range_with_len 0 l.node)
