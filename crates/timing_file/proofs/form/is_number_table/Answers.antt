use Rattle.std.proofs.Common.{sym, ◌∙◌}
use Rattle.timing_file.proofs.Forms.{are_numbers-view}
use Rattle.timing_file.proofs.form.is_number_table.Goals as goal

pub returns-in-Some : goal.returns-in-Some
returns-in-Some c = rw (← c.in-Some.ensures) (c.are_numbers.ensures ∙ sym (are_numbers-view c.in-Some.members.now.entries))
