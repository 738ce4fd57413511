use Rattle.std.proofs.Common.{ℕ, ◌+◌, [], ◌++◌, List, map, sym}
use Rattle.std.specs.Prelude.{if◌then◌else◌}
use Rattle.std.specs.List.{flat_map, range_with_len}
use Rattle.wcet_atomic_blocks.specs.Blocks.{edges_at, is_service}
use Rattle.row_build.specs.Columns as words
use Rattle.row_build.specs.Working.Numbered.{IsColumn, column_of}
use Rattle.row_build.proofs.Growing.{adds_both, adds_like, flat_numbers_more}
use Rattle.row_build.proofs.columns.push_edges.Goals as goal

pub loop-node-preserved : goal.loop-node-preserved
loop-node-preserved c =
    let plant = c.args.plant.now in let states = c.args.states.now in let n = c.loop-node.node in
    let gives : ℕ → List words.Along = λ node. if is_service plant.flow node then [] else words.alongs_at node 0 (edges_at plant.flow node) in
    adds_like (column_of states) (IsColumn plant states) c.args.found.now c.push_edges_of.new.found
    (map words.Goes (flat_map gives (range_with_len 0 n)) ++ map words.Goes (gives n)) (map words.Goes (flat_map gives (range_with_len 0 (n + 1))))
    (sym (flat_numbers_more words.Goes gives n))
    (adds_both (column_of states) (IsColumn plant states) c.args.found.now c.loop-node.found c.push_edges_of.new.found (map words.Goes (flat_map gives (range_with_len 0 n)))
    (map words.Goes (gives n)) c.loop-node.invariant c.in_ok-push_edges_of.ensures)
