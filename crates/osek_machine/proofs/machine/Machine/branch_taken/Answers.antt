-- The running context exists.
use Rattle.std.proofs.Common.{rules}
use Rattle.osek_machine.specs.Machine.{state_of}
use Rattle.osek_machine.proofs.Kept.{running_exists}
use Rattle.osek_machine.proofs.machine.Machine.branch_taken.Goals as goal

pub stance-requires-clause-exists : goal.stance-requires-clause-exists
stance-requires-clause-exists c =
    running_exists c.args.system.now (state_of c.args.self.now) _ c.requires.room (search rules)
