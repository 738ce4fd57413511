use Rattle.std.proofs.Common.{◌≡◌, ◌++◌, drop}
use Rattle.std.specs.Prelude.{string_bytes}
use Rattle.reports.specs.Solved.{ray_lines, ray_text}
use Rattle.reports.proofs.solved.ray_text.Given as goal

abbrev pub invariant-loop-column : goal.invariant-loop-column
invariant-loop-column l = string_bytes l.text ++ ray_lines l.column (drop l.column l.ray) ≡ ray_text l.ray
