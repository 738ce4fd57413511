-- What the readers make of the four texts.
use Rattle.std.specs.Prelude.{ℕ, false, List, length, map, replicate, Ok}
use Rattle.std.specs.List.{range_with_len}
use Rattle.json_fields.specs.Files.{IsGiven}
use Rattle.elf_image.specs.Elf.{IsImageOf}
use Rattle.oil_grammar.specs.Grammar.{IsTextOf}
use Rattle.oil_model.specs.Meaning.{IsSystemOf}
use Rattle.osek_kernel.specs.declared.context.Context.TheVariants as contexts
use Rattle.timing_file.specs.declared.fault.TimingKind.TheVariants as timing_kinds
use Rattle.timing_file.specs.Timing.{timing_in}
use Rattle.abstract_sched.specs.declared.rules.StateRules.{StateRules}
use Rattle.certificate.specs.declared.fault.StatesKind.TheVariants as states_kinds
use Rattle.certificate.specs.States.{states_in}
use Rattle.demo_gen.specs.declared.task.DemoTask.{DemoTask}
use Rattle.demo_gen.specs.declared.texts.Demo.{Demo}
use Rattle.demo_gen.specs.Demo.{the_tree, the_system, the_image, the_timing, the_states}

-- what states of a system of so many tasks are judged by: block i is that of task i
abbrev pub the_rules : ℕ → StateRules
the_rules count = record {
  modes = 1;
  isrs = 0;
  resources = 1;
  inner = replicate count false;
  owners = map contexts.Task (range_with_len 0 count);
}

-- Each text passes its reader, with the tree, the system, the image, the timing and the states of the tasks.
pub record AreRead (tasks : List DemoTask) (made : Demo) : Type 0 where
  pub tree : IsTextOf (the_tree tasks) made.oil
  pub system : IsSystemOf (the_tree tasks) (the_system tasks)
  pub image : IsImageOf made.elf (the_image tasks)
  pub timing : IsGiven timing_kinds.Json timing_in made.timing (Ok (the_timing tasks))
  pub states : IsGiven states_kinds.Json (states_in (the_rules (length tasks))) made.states (Ok (the_states (length tasks)))
