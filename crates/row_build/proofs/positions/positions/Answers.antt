use Rattle.std.proofs.Common.{ℕ, ◌<◌, ◌∙◌, Bool, length, map, sym, rules}
use Rattle.row_build.specs.Columns.{is_position}
use Rattle.row_build.specs.Working.Numbered.{start_of}
use Rattle.row_build.proofs.ColumnLists.{positions_pushed, positions_kept}
use Rattle.row_build.proofs.positions.positions.Goals as goal
use Rattle.row_build.proofs.positions.positions.Goals.{then-is_position+in_ok-push, else-is_position}

pub loop-node-preserved : goal.loop-node-preserved
loop-node-preserved c =
    let plant = c.args.plant.now in let n = c.loop-node.node in
    let test : ℕ → Bool = is_position plant (map (start_of c.args.states.now) c.args.starts.now) c.args.task in
    let within : n < length plant.flow.nodes = search rules in
    elim c.if-is_position.branch [
      | then-is_position+in_ok-push w ↦
          positions_pushed plant test n c.loop-node.nodes c.if-is_position.nodes c.loop-node.invariant (sym c.is_position.ensures ∙ w.if-is_position.true) within
          (w.nodes-is ∙ w.in_ok-push.ensures.ok)
      | else-is_position w ↦
          positions_kept plant test n c.loop-node.nodes c.if-is_position.nodes c.loop-node.invariant (sym c.is_position.ensures ∙ w.if-is_position.false) w.nodes-is
    ]
