use Rattle.std.proofs.Common.{◌∙◌}
use Rattle.trace_check.proofs.Forms.{six_members}
use Rattle.trace_check.proofs.form.service_of.Goals as goal

pub returns : goal.returns
returns c =
    c.service_parts.ensures
    ∙ six_members c.args.members.now _ _ _ _ _ _ c.requires c.index-members-0.is c.index-members-1.is c.index-members-2.is c.index-members-3.is
    c.index-members-4.is c.index-members-5.is
