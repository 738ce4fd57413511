-- The words of the kinds of fault.
use Rattle.std.specs.Prelude.{ℕ, List, codes}
use Rattle.timing_file.specs.declared.fault.TimingKind.{TimingKind}
use Rattle.timing_file.specs.declared.fault.TimingKind.TheVariants.{Json, Shape, Key, Range, Twice}

abbrev pub timing_word : TimingKind → List ℕ
timing_word Json = codes "Json"
timing_word Shape = codes "Shape"
timing_word Key = codes "Key"
timing_word Range = codes "Range"
timing_word Twice = codes "Twice"
