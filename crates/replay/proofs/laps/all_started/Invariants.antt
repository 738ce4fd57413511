use Rattle.replay.specs.Working.Laps.{AreStarted}
use Rattle.replay.proofs.laps.all_started.Given as goal

abbrev pub invariant-loop : goal.invariant-loop
invariant-loop l = AreStarted l.loops l.counter l.contexts.items
