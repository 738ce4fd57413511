use Rattle.syswcet.proofs.Ranges.{in_range}
use Rattle.syswcet.proofs.words.in_range.Goals as goal

pub returns : goal.returns
returns c = in_range
