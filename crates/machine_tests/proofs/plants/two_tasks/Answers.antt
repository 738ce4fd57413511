-- The text has the tree.
use Rattle.machine_tests.proofs.plants.two_tasks.Goals as goal

pub system_in-requires : goal.system_in-requires
system_in-requires c = (_, c.in-Ok.ensures.ok)
