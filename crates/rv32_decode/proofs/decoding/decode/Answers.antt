-- What has the word is what the table reads from it.
use Rattle.std.proofs.Common.{◌∙◌}
use Rattle.rv32_decode.proofs.TableLaws.{insn_only}
use Rattle.rv32_decode.proofs.decoding.decode.Goals as goal

pub returns-clause-only : goal.returns-clause-only
returns-clause-only c insn h = c.by_opcode.ensures ∙ insn_only c.args.word insn h
