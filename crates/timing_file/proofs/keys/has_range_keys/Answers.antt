use Rattle.std.proofs.Common.{sym, ◌∙◌}
use Rattle.serde_json.specs.View.{view}
use Rattle.timing_file.proofs.Forms.{has_range_keys-view}
use Rattle.timing_file.proofs.keys.has_range_keys.Goals as goal

pub returns-in-Some : goal.returns-in-Some
returns-in-Some c = c.are_keyed.ensures ∙ sym (has_range_keys-view c.args.key.now (view c.args.value.now) c.in-Some.ranges.now c.in-Some.ensures)
