-- The lines of `demo`.
use Rattle.std.specs.Prelude.{ℕ, List, ◌++◌, codes}
use Rattle.std.specs.Fmt.{decimal}
use Rattle.oil_model.specs.declared.system.System.{System}
use Rattle.replay.specs.declared.response.Response.{Response}
use Rattle.command_steps.specs.Refusals.{newline}
use Rattle.bound_commands.specs.All.{task_name}
use Rattle.demo_command.specs.Seen.{seen_of}

-- `NAME bound N seen M`, N and M in cycles
abbrev pub task_line : List ℕ → ℕ → ℕ → List ℕ
task_line name bound seen = name ++ (codes " bound " ++ (decimal bound ++ (codes " seen " ++ (decimal seen ++ newline))))

-- what is told of a task and its bound where a run has these responses
abbrev pub line_of : System → List Response → ℕ → ℕ → List ℕ
line_of system responses task bound = task_line (task_name system task) bound (seen_of task responses)

-- `states S`
abbrev pub states_line : ℕ → List ℕ
states_line count = codes "states " ++ (decimal count ++ newline)
