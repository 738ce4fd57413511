use Rattle.std.proofs.Common.{◌+◌, ◌*◌}
use Rattle.cut_search.proofs.searching.+search.Given as goal

abbrev pub decreases-search : goal.decreases-search
decreases-search l = 3 * l.left + 1

abbrev pub decreases-search_cut : goal.decreases-search_cut
decreases-search_cut l = 3 * l.left

abbrev pub decreases-search_high : goal.decreases-search_high
decreases-search_high l = 3 * l.low.left + 2
