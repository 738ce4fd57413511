use Rattle.std.proofs.Common.{length}
use Rattle.command_steps.specs.Reports.{IsWriteCall}
use Rattle.command_steps.proofs.Pieces.{Continues}
use Rattle.command_steps.proofs.reporting.write_text.Given as goal

abbrev pub invariant-loop-rest : goal.invariant-loop-rest
invariant-loop-rest g l = Continues (IsWriteCall g.O.Sink.outside g.O.Sink.writes) l.initial.out l.text l.out l.rest

abbrev pub decreases-loop-rest : goal.decreases-loop-rest
decreases-loop-rest g l = length l.rest
