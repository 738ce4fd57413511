use Rattle.std.proofs.Common.{◌∙◌}
use Rattle.promises_file.specs.Promises.{is_known}
use Rattle.promises_file.proofs.Keys.{each_passes}
use Rattle.promises_file.proofs.names.knows_keys.Goals as goal

pub returns-in-Some : goal.returns-in-Some
returns-in-Some c =
    rw (← c.in-Some.ensures) (c.knows_all.ensures ∙ each_passes (is_known c.args.system.now) c.in-Some.members.now.entries)
