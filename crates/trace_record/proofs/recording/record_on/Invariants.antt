use Rattle.std.proofs.Common.{◌-◌, ◌^◌}
use Rattle.trace_record.specs.Working.Recorder.{IsRecording}
use Rattle.trace_record.proofs.recording.record_on.Given as goal

abbrev pub invariant-rounds : goal.invariant-rounds
invariant-rounds l = IsRecording l.plant l.schedule l.player l.recorder

abbrev pub decreases-rounds : goal.decreases-rounds
decreases-rounds l = 2 ^ 64 - l.player.made
