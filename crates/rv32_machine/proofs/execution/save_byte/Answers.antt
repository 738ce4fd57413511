-- The memory after the byte is stored.
use Rattle.std.proofs.Common.{◌∙◌, ap, ◌+◌, ◌%◌, ◌^◌}
use Rattle.rv32_machine.specs.Memory.{memory_of, after_store}
use Rattle.rv32_machine.proofs.execution.save_byte.Goals as goal

pub returns : goal.returns
returns c =
    let address = (c.args.address + c.args.place) % 2 ^ 32 in
    c.set_byte.ensures ∙ ap (λ byte. after_store (memory_of c.args.memory.now) (address, byte)) c.byte_of_word.ensures
