use Rattle.std.proofs.Common.{◌≤◌, ◌-◌, ℕ, List, Option, length, vec_len}
use Rattle.std.specs.Io.KnownBytes.{Consumes}
use Rattle.wcet_io.specs.Causes.{CountsOn, RoseBy}
use Rattle.wcet_io.proofs.host_files.read_bytes.Given as goal

pub record SoFar (most before after : ℕ) (bytes : List ℕ) (known left : Option (List ℕ)) : Type 0 where
  pub within : length bytes ≤ most
  pub counted : RoseBy (length bytes) before after
  pub goes_on : CountsOn before after
  pub consumed : Consumes known left bytes

abbrev pub invariant-loop-buffer : goal.invariant-loop-buffer
invariant-loop-buffer g l = SoFar l.most l.fn.taken l.taken l.bytes.items (g.S.Read.remaining l.fn.source) (g.S.Read.remaining l.source)

abbrev pub decreases-loop-buffer : goal.decreases-loop-buffer
decreases-loop-buffer g l = l.most - vec_len l.bytes
