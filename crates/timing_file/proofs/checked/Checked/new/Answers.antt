use Rattle.timing_file.proofs.Checks.{lawful}
use Rattle.timing_file.proofs.checked.Checked.new.Goals as goal

pub invariant_of-result : goal.invariant_of-result
invariant_of-result c = lawful c.args.timing c.requires.range c.requires.once
