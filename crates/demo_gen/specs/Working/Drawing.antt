-- Tasks as they are drawn one after the other, each from the state that the draws before it left.
use Rattle.std.specs.Prelude.{ℕ, ◌+◌, ◌*◌, ◌/◌, ◌%◌}
use Rattle.demo_gen.specs.declared.task.DemoTask.{DemoTask}
use Rattle.demo_gen.specs.Draws.{moved_on}

-- the draw after which the state is this one
abbrev pub drawn : ℕ → ℕ
drawn state = state / 65536 % 32768

abbrev pub thrice : ℕ → ℕ
thrice state = moved_on (moved_on (moved_on state))

abbrev pub task_from : ℕ → ℕ → ℕ → ℕ → DemoTask
task_from state count number entry = record {
  number = number;
  entry = entry;
  steps = 1 + drawn (moved_on state) % 20;
  bound = drawn (moved_on (moved_on state)) % 8;
  cycle = count * (2000 + 1000 * (drawn (thrice state) % 8));
}
