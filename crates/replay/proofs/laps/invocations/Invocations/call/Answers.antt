use Rattle.std.proofs.Common.{◌≡◌, length, rules, ◌∙◌}
use Rattle.std.specs.Vec.{with_items}
use Rattle.std.proofs.lemmas.List.{with_items_is}
use Rattle.replay.proofs.LapsSteps.{begin_changes, begin_answers}
use Rattle.replay.proofs.laps.invocations.Invocations.call.Goals as goal

pub returns-clause-changes : goal.returns-clause-changes
returns-clause-changes c =
    let long : length c.begin_at.new.rows ≡ c.self.inside.rows.len = search rules in
    begin_changes c.args.loops.now c.args.self.now c.self.inside.rows.items c.as_mut_slice.result.now (with_items c.self.inside.rows c.begin_at.new.rows).items c.self.inside.depth
    c.self.view_is c.as_mut_slice.ensures.value c.requires.shallow c.requires.room (with_items_is c.self.inside.rows c.begin_at.new.rows long ∙ c.begin_at.ensures)

pub returns-clause-answers : goal.returns-clause-answers
returns-clause-answers c = begin_answers c.args.loops.now c.args.self.now _ (returns-clause-changes c) c.requires.bounds
