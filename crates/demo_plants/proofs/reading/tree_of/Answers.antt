use Rattle.demo_plants.proofs.reading.tree_of.Goals as goal

pub unreachable-requires : goal.unreachable-requires
unreachable-requires c = (rw c.in-Err-At.field-0-is at c.in-Err-At.ensures.fault).0 c.requires.0 c.requires.1
