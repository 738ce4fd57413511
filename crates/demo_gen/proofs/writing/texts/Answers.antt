use Rattle.demo_gen.proofs.Ranges.{all_small, is_plain}
use Rattle.demo_gen.proofs.NoFault.{no_fault}
use Rattle.demo_gen.proofs.SystemOf.{same_system}
use Rattle.demo_gen.proofs.writing.texts.Goals as goal

pub elf_text-requires-clause-small : goal.elf_text-requires-clause-small
elf_text-requires-clause-small c = all_small c.args.tasks.now c.requires

pub elf_text-requires-clause-plain : goal.elf_text-requires-clause-plain
elf_text-requires-clause-plain c = is_plain c.args.tasks.now c.requires

pub returns-clause-read : goal.returns-clause-read
returns-clause-read c = record {
  tree = c.in_ok-oil.ensures.again;
  system = record { sound = no_fault c.args.tasks.now c.requires; same = same_system c.args.tasks.now c.requires };
  image = c.in_ok-elf.ensures.again;
  timing = c.in_ok-timing.ensures.again;
  states = c.in_ok-states.ensures.again;
}
