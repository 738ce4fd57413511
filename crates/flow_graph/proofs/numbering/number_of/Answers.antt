use Rattle.flow_graph.proofs.Numbers.{found_there, not_missed}
use Rattle.flow_graph.proofs.numbering.number_of.Goals as goal

pub returns-in-Ok : goal.returns-in-Ok
returns-in-Ok c = found_there _ _ _ c.in-Ok.ensures.bound c.in-Ok.ensures.ok

pub returns-in-Err : goal.returns-in-Err
returns-in-Err c = absurd (not_missed _ _ _ c.requires.order c.requires.listed c.in-Err.ensures.position)
