use Rattle.std.proofs.Common.{map}
use Rattle.std.specs.Prelude.{filter}
use Rattle.osek_kernel.specs.declared.context.Context.TheVariants as contexts
use Rattle.row_build.specs.Columns as words
use Rattle.row_build.specs.Working.Numbered.{IsColumn, column_of, start_of, going_of}
use Rattle.row_build.proofs.ColumnLists.{five_parts, all_columns}
use Rattle.row_build.proofs.columns.columns.Goals as goal

pub returns : goal.returns
returns c =
    let plant = c.args.plant.now in let states = c.args.states.now in let task = c.args.task in
    let begins = map (start_of states) c.args.starts.now in let gs = map (going_of states) c.args.goings.now in
    all_columns plant states task begins gs c.args.nodes.now c.push_positions.new.found c.requires.starts.shows c.requires.goings.shows c.requires.nodes
    (five_parts (column_of states) (IsColumn plant states) c.new-found.result c.push_starts.new.found c.push_moves.new.found c.push_edges.new.found c.push_blocks.new.found
    c.push_positions.new.found (map words.Starts begins) (map words.Moves (filter (λ going. words.is_active_in going.from (contexts.Task task)) gs))
    (map words.Goes (words.alongs plant)) (map words.Begins (words.begun_blocks plant task)) (map words.Stands c.args.nodes.now) c.new-found.ensures
    c.in_ok-push_starts.ensures c.in_ok-push_moves.ensures c.in_ok-push_edges.ensures c.in_ok-push_blocks.ensures c.in_ok-push_positions.ensures)
