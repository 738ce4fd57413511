-- What is written is read again.
use Rattle.rv32_decode.proofs.TableLaws.{insn_only}
use Rattle.rv32_decode.proofs.encoding.encode.Goals as goal

pub returns-clause-again : goal.returns-clause-again
returns-clause-again c =
    insn_only
    c.word_of.result
    c.args.insn.now
    (record {
      fits = record { registers = c.word_of.ensures.registers; immediate = c.requires };
      spelled = c.word_of.ensures.word;
    })
