-- The ranges of what is drawn.
use Rattle.std.specs.Prelude.{◌≡◌, ℕ, ◌+◌, ◌*◌, ◌^◌, ◌<◌, ◌≤◌, List, [], ◌∷◌, length}
use Rattle.demo_gen.specs.declared.task.DemoTask.{DemoTask}
use Rattle.demo_gen.specs.Draws.{base, size_of}

-- what the code of a task rests on
abbrev pub IsSmall : DemoTask → Type 0
IsSmall task = task.bound < 8

-- it is one of the first eight
abbrev pub IsEarly : DemoTask → Type 0
IsEarly task = task.number < 8

-- the addresses of its loop are below 2^32
abbrev pub HasRoom : DemoTask → Type 0
HasRoom task = task.entry + 4 * (task.steps + 2) < 2 ^ 32

-- a task of that number, whose first word stands at the address
pub record IsTask (number entry : ℕ) (task : DemoTask) : Type 0 where
  pub number_is : task.number ≡ number
  pub entry_is : task.entry ≡ entry
  pub some : 1 ≤ task.steps
  pub few : task.steps ≤ 20
  pub bound : task.bound < 8
  pub repeats : 1 ≤ task.cycle
  pub cycle : task.cycle ≤ 72000

-- tasks from that number on, which follow each other from the address on
abbrev pub Follow : ℕ → ℕ → List DemoTask → Type 0
Follow number entry [] = Unit {0}
Follow number entry (task ∷ tasks) = IsTask number entry task × Follow (number + 1) (entry + 4 * size_of task.steps) tasks

-- 1 to 8 tasks
pub record AreDrawn (tasks : List DemoTask) : Type 0 where
  pub some : 1 ≤ length tasks
  pub few : length tasks ≤ 8
  pub follow : Follow 0 base tasks
