-- A sink in memory whose writes can be made to fail.
use Rattle.std.specs.Prelude.{◌≡◌, ℕ, ◌+◌, Bool, true, false, List, ◌++◌, Some, Result, Ok, Err, min, ◌==◌, if◌then◌else◌}
use Rattle.std.specs.List.{list_any}
use Rattle.wcet_io.specs.declared.fault.SinkFault.{SinkFault}
use Rattle.wcet_io.specs.declared.fault.SinkFault.TheVariants.{Failed, Memory}
use Rattle.wcet_io.specs.Causes.{greatest_count}
use Rattle.wcet_io.specs.Sink.{SinkOutside, is_failed}

-- What such a sink is: its bytes, the numbers of the writes that are to fail, the number of the next write,
-- and how many writes failed.
pub record SinkInMemory : Type 0 where
  pub written : List ℕ
  pub failing : List ℕ
  pub calls : ℕ
  pub faults : ℕ

-- what it tells of the outside
abbrev pub outside_of : SinkInMemory → SinkOutside
outside_of sink = record { written = Some sink.written; faults = sink.faults }

-- the next write is to fail
abbrev pub fails_next : SinkInMemory → Bool
fails_next sink = list_any (λ call. call == sink.calls) sink.failing

-- A write fails exactly where it is to fail, but for want of memory.
abbrev pub FailsWhereListed : {T : Type 0} → Bool → Result T SinkFault → Type 0
FailsWhereListed fails (Ok done) = fails ≡ false
FailsWhereListed fails (Err Failed) = fails ≡ true
FailsWhereListed fails (Err Memory) = fails ≡ false

-- the bytes after a write of this piece that gave this answer: all of it is appended, or nothing
abbrev pub written_after : {T : Type 0} → List ℕ → List ℕ → Result T SinkFault → List ℕ
written_after written piece (Ok done) = written ++ piece
written_after written piece (Err refused) = written

-- the sink after it: the write is numbered, and a failed one is counted
abbrev pub after_write : {T : Type 0} → SinkInMemory → List ℕ → Result T SinkFault → SinkInMemory
after_write sink piece answer = record sink {
  written = written_after sink.written piece answer;
  calls = min (sink.calls + 1) greatest_count;
  faults = if is_failed answer then min (sink.faults + 1) greatest_count else sink.faults;
}
