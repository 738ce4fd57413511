-- What the real files count and keep. They tell no content.
use Rattle.std.specs.Prelude.{ℕ, List, Option, None}
use Rattle.wcet_io.specs.Files.{FilesOutside}

pub record HostCounts : Type 0 where
  pub faults : ℕ
  pub failed : Option (List ℕ)
  pub taken : ℕ

-- what they tell of the outside
abbrev pub outside_of : HostCounts → FilesOutside
outside_of counts = record { told = λ name. None; faults = counts.faults; failed = counts.failed; taken = counts.taken }
