use Rattle.std.proofs.Common.{ℕ, arith}
use Rattle.std.proofs.lemmas.List.{take-replicate}
use Rattle.elf_image.specs.Plain.{padding}
use Rattle.elf_image.proofs.plain.put_padding.Goals as goal

pub returns : goal.returns
returns c = rw (← take-replicate {X = ℕ} (padding c.args.place) 3 0 (omega arith)) c.put_bytes.ensures
