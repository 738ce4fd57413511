-- The draws of a seed, and the tasks that are drawn.
use Rattle.std.specs.Prelude.{ℕ, zero, suc, ◌+◌, ◌*◌, ◌/◌, ◌%◌, ◌^◌, List, map}
use Rattle.std.specs.List.{range_with_len}
use Rattle.demo_gen.specs.declared.task.DemoTask.{DemoTask}

-- ---- Draws

-- how the state moves on at a draw
abbrev pub moved_on : ℕ → ℕ
moved_on state = (state * 1103515245 + 12345) % 2 ^ 32

-- the state after so many draws; before the first one it is the seed
abbrev pub state_after : ℕ → ℕ → ℕ
state_after seed zero = seed
state_after seed (suc draws) = moved_on (state_after seed draws)

-- the draw of that number, counted from 0: 15 of the bits of the state after it
abbrev pub draw : ℕ → ℕ → ℕ
draw seed number = state_after seed (suc number) / 65536 % 32768

-- ---- Tasks: three draws for each

-- the increments at a task's beginning
abbrev pub steps_of : ℕ → ℕ → ℕ
steps_of seed number = 1 + draw seed (3 * number) % 20

-- how often its loop goes back
abbrev pub bound_of : ℕ → ℕ → ℕ
bound_of seed number = draw seed (3 * number + 1) % 8

-- the cycles between two expiries of its alarm, in a system of so many tasks
abbrev pub cycle_of : ℕ → ℕ → ℕ → ℕ
cycle_of seed count number = count * (2000 + 1000 * (draw seed (3 * number + 2) % 8))

-- the address of the first task's first word
abbrev pub base : ℕ
base = 0x1000

-- the words of a task with so many increments: those, one before the loop, two in it, and a service
abbrev pub size_of : ℕ → ℕ
size_of steps = steps + 6

-- the address of a task's first word: tasks follow each other
unfoldable pub entry_of : ℕ → ℕ → ℕ
entry_of seed zero = base
entry_of seed (suc number) = entry_of seed number + 4 * size_of (steps_of seed number)

-- the task of that number among so many
abbrev pub task_at : ℕ → ℕ → ℕ → DemoTask
task_at seed count number = record {
  number = number;
  entry = entry_of seed number;
  steps = steps_of seed number;
  bound = bound_of seed number;
  cycle = cycle_of seed count number;
}

-- the tasks of a generated system
abbrev pub tasks_of : ℕ → ℕ → List DemoTask
tasks_of seed count = map (task_at seed count) (range_with_len 0 count)
