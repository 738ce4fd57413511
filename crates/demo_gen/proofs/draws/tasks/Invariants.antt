use Rattle.demo_gen.proofs.Drawing.{HasDrawn}
use Rattle.demo_gen.proofs.draws.tasks.Given as goal

abbrev pub invariant-loop-number : goal.invariant-loop-number
invariant-loop-number l = HasDrawn l.fn.seed l.fn.count l.number l.state l.entry l.made.items
