-- The four texts of a generated system.
use Rattle.std.specs.Prelude.{ℕ, List, [], ◌∷◌, ◌++◌, length, map, codes}
use Rattle.std.specs.Int.{w32, to_be_bytes}
use Rattle.elf_image.specs.Plain.{plain_file}
use Rattle.oil_grammar.specs.Layout.{layout_of}
use Rattle.hex.specs.Hex.{encode_lower}
use Rattle.serde_json.specs.Data.{Data, string, object, no_members, member}
use Rattle.serde_json.specs.Written.{compact_text}
use Rattle.timing_file.specs.declared.timing.Loop.{Loop}
use Rattle.certificate.specs.Writing.{number_data, list_data, states_text}
use Rattle.demo_gen.specs.declared.texts.Demo.{Demo}
use Rattle.demo_gen.specs.declared.task.DemoTask.{DemoTask}
use Rattle.demo_gen.specs.Draws.{base, tasks_of}
use Rattle.demo_gen.specs.Demo.{words_of, symbol_of, the_tree, loop_of, the_states, counter_name}

-- ---- The timing file

-- `0x` and eight hexadecimal digits
abbrev pub address_data : ℕ → Data
address_data address = string (codes "0x" ++ encode_lower (to_be_bytes w32 address))

abbrev pub loop_data : Loop → Data
loop_data l = object (
    member (codes "bound") (number_data l.bound)
    (member (codes "from") (address_data l.from)
    (member (codes "to") (address_data l.to) no_members))
    )

-- an object with one member, a number
abbrev pub single : List ℕ → ℕ → Data
single key n = object (member key (number_data n) no_members)

unfoldable pub timing_data : List DemoTask → Data
timing_data tasks = object (
    member (codes "alarm") (number_data 10)
    (member (codes "classes") (single (codes "default") 1)
    (member (codes "interrupt") (number_data 10)
    (member (codes "loops") (list_data (map (λ task. loop_data (loop_of task)) tasks))
    (member (codes "services") (single (codes "default") 10)
    (member (codes "ticks") (single counter_name 1)
    (member (codes "version") (number_data 1) no_members))))))
    )

-- one line: the value with no space, and a newline
abbrev pub timing_text : List DemoTask → List ℕ
timing_text tasks = compact_text (timing_data tasks) ++ 10 ∷ []

-- ---- The four

abbrev pub texts_of : List DemoTask → Demo
texts_of tasks = record {
  oil = layout_of (the_tree tasks);
  elf = plain_file base (words_of tasks) (map symbol_of tasks);
  timing = timing_text tasks;
  states = states_text (the_states (length tasks));
}

-- the texts of the system of a seed with so many tasks
abbrev pub the_demo : ℕ → ℕ → Demo
the_demo seed count = texts_of (tasks_of seed count)
