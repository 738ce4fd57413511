-- The words of the kinds of fault.
use Rattle.std.specs.Prelude.{ℕ, List, codes}
use Rattle.replay.specs.declared.fault.ScheduleKind.{ScheduleKind}
use Rattle.replay.specs.declared.fault.ScheduleKind.TheVariants.{Json, Shape, Range, Name}
use Rattle.replay.specs.declared.response.PlayKind.{PlayKind}
use Rattle.replay.specs.declared.response.PlayKind.TheVariants.{TooClose, Unpaired, CodeWritten, LoopPast, Misuse}

abbrev pub schedule_word : ScheduleKind → List ℕ
schedule_word Json = codes "Json"
schedule_word Shape = codes "Shape"
schedule_word Range = codes "Range"
schedule_word Name = codes "Name"

abbrev pub play_word : PlayKind → List ℕ
play_word (TooClose source moment) = codes "TooClose"
play_word (Unpaired context address moment) = codes "Unpaired"
play_word (CodeWritten context address moment) = codes "CodeWritten"
play_word (LoopPast context address moment) = codes "LoopPast"
play_word (Misuse context address code moment) = codes "Misuse"
