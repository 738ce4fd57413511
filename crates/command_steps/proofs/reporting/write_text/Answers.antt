use Rattle.std.proofs.Common.{Ok, refl, arith}
use Rattle.command_steps.specs.Reports.{IsWriteCall}
use Rattle.command_steps.proofs.Pieces.{one_more, refused, nothing_left}
use Rattle.command_steps.proofs.reporting.write_text.Goals as goal

pub returns-in-Err : goal.returns-in-Err
returns-in-Err g c =
    refused (IsWriteCall g.O.Sink.outside g.O.Sink.writes) c.args.out.now c.args.text.now c.loop-rest.out c.loop-rest.rest.now _ c.split_at.result.0.now c.in-Err.fault c.write.new.self
    c.loop-rest.invariant (omega arith) c.min.ensures c.split_at.ensures.front
    (record { called = c.in-Err.ensures.called; tells = c.in-Err.ensures.tells })

pub loop-rest-preserved : goal.loop-rest-preserved
loop-rest-preserved g c =
    one_more (IsWriteCall g.O.Sink.outside g.O.Sink.writes) c.args.out.now c.args.text.now c.loop-rest.out c.loop-rest.rest.now _ c.split_at.result.0.now c.split_at.result.1.now c.write.new.self
    c.loop-rest.invariant (omega arith) c.min.ensures c.split_at.ensures.front c.split_at.ensures.back
    (record { called = c.in_default.ensures.called; tells = c.in_default.ensures.tells })

pub returns : goal.returns
returns g c = c.loop-rest.invariant 0 (Ok tt) c.loop-rest.out (nothing_left c.loop-rest.rest.now (omega arith), refl, refl)
