use Rattle.std.proofs.Common.{◌∙◌}
use Rattle.trace_check.proofs.Forms.{three_members, four_members}
use Rattle.trace_check.proofs.form.parts_of.Goals as goal

pub returns-in-3 : goal.returns-in-3
returns-in-3 c =
    c.arrive_parts.ensures ∙ three_members c.args.members.now _ _ _ c.in-3.is c.index-members-0.is c.index-members-1.is c.index-members-2.is

pub returns-in-4 : goal.returns-in-4
returns-in-4 c =
    c.take_parts.ensures
    ∙ four_members c.args.members.now _ _ _ _ c.in-4.is c.index-members-0-in-4.is c.index-members-1-in-4.is c.index-members-2-in-4.is c.index-members-3.is
