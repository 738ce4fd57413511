use Rattle.std.proofs.Common.{◌∙◌}
use Rattle.json_fields.proofs.Words.{each_known}
use Rattle.json_fields.proofs.objects.has_only.Goals as goal

pub returns-in-Some : goal.returns-in-Some
returns-in-Some c =
    rw (← c.in-Some.ensures) (c.all_known.ensures ∙ each_known c.args.required.now c.args.optional.now c.in-Some.members.now.entries)
