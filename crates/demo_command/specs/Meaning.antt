-- What the answer of `demo` means.
use Rattle.std.specs.Prelude.{◌≡◌, ℕ, ◌^◌, List, ◌++◌, length, slice_get, Some}
use Rattle.oil_model.specs.declared.system.System.{System}
use Rattle.replay.specs.declared.response.Response.{Response}
use Rattle.replay.specs.Play.{PlaysWhole}
use Rattle.inputs.specs.Meaning.{LastsAtMost, AreDeclared}
use Rattle.bound_commands.specs.Bounded.{lines_of}
use Rattle.demo_gen.specs.Texts.{the_demo}
use Rattle.demo_runs.specs.Schedule.{the_schedule}
use Rattle.demo_command.specs.Texts.{line_of, states_line}

-- `NAME bound N seen M` for these tasks, from this one on
abbrev pub lines_from : System → List Response → ℕ → List ℕ → List ℕ
lines_from system responses = lines_of (line_of system responses)

-- The texts of the seed's system with so many tasks are a system, its image and its timing. The text has a line for each task, and no
-- activation of it lasts longer than its bound; beside that stands what was seen in the run in which every alarm arrives at the first
-- moment, which keeps what is declared. The last line has the number of sets of tasks.
pub record BoundsDemo (seed count : ℕ) (text : List ℕ) : Type 0 where
  pub declared : AreDeclared (the_demo seed count).oil (the_demo seed count).elf (the_demo seed count).timing
  pub responses : List Response
  pub plays : PlaysWhole declared.image declared.system declared.times (the_schedule count) responses
  pub bounds : List ℕ
  pub for_each : length bounds ≡ count
  pub told : text ≡ lines_from declared.system responses 0 bounds ++ states_line (2 ^ count)
  pub lasts : (task bound : ℕ) → slice_get bounds task ≡ Some bound
      → LastsAtMost declared.image declared.system declared.times task bound
