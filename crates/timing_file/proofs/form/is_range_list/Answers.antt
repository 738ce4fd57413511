use Rattle.std.proofs.Common.{sym, ◌∙◌}
use Rattle.serde_json.specs.View.{view}
use Rattle.timing_file.proofs.Forms.{is_range_list-view}
use Rattle.timing_file.proofs.form.is_range_list.Goals as goal

pub returns-in-Some : goal.returns-in-Some
returns-in-Some c = c.are_ranges.ensures ∙ sym (is_range_list-view c.args.key.now (view c.args.value.now) c.in-Some.ranges.now c.in-Some.ensures)
