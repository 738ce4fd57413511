use Rattle.std.proofs.Common.{◌≡◌, length, rules}
use Rattle.std.specs.Vec.{with_items}
use Rattle.std.proofs.lemmas.List.{with_items_is}
use Rattle.replay.proofs.LapsSteps.{row_within, move_changes, move_answers, seen_as}
use Rattle.replay.proofs.laps.invocations.Invocations.move_on.Goals as goal

pub move_at-requires-clause-within : goal.move_at-requires-clause-within
move_at-requires-clause-within c =
    row_within c.args.loops.now c.args.self.now c.self.inside.rows.items c.as_mut_slice.result.now c.self.inside.depth
    c.self.view_is c.as_mut_slice.ensures.value c.if-self-eq0.false c.requires.bounds

pub returns-clause-changes : goal.returns-clause-changes
returns-clause-changes c =
    let long : length c.move_at.new.rows ≡ c.self.inside.rows.len = search rules in
    move_changes c.args.loops.now c.args.from c.args.to c.args.self.now c.self.inside.rows.items c.as_mut_slice.result.now (with_items c.self.inside.rows c.move_at.new.rows).items
    c.self.inside.depth c.move_at.result c.self.view_is c.as_mut_slice.ensures.value c.if-self-eq0.false c.requires.room
    (seen_as _ _ _ _ _ _ _ _ (with_items_is c.self.inside.rows c.move_at.new.rows long) c.move_at.ensures)

pub returns-clause-answers : goal.returns-clause-answers
returns-clause-answers c =
    let long : length c.move_at.new.rows ≡ c.self.inside.rows.len = search rules in
    move_answers c.args.loops.now c.args.from c.args.to c.args.self.now c.self.inside.rows.items c.as_mut_slice.result.now (with_items c.self.inside.rows c.move_at.new.rows).items
    c.self.inside.depth c.move_at.result c.self.view_is c.as_mut_slice.ensures.value c.if-self-eq0.false c.requires.room c.requires.bounds
    (seen_as _ _ _ _ _ _ _ _ (with_items_is c.self.inside.rows c.move_at.new.rows long) c.move_at.ensures)
