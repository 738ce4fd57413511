-- What the answer of `loops` means.
use Rattle.std.specs.Prelude.{◌≡◌, ℕ, ◌≤◌, List, ◌++◌, Contains, Option, Some}
use Rattle.elf_image.specs.Image.{ImageData}
use Rattle.oil_model.specs.declared.system.System.{System}
use Rattle.oil_model.specs.Answers.{task_named}
use Rattle.timing_file.specs.declared.timing.Timing.{Timing}
use Rattle.osek_machine.specs.Activations.{Activation, activations}
use Rattle.osek_machine.specs.Declarations.{IsDeclared}
use Rattle.osek_machine.specs.Events.{Event}
use Rattle.osek_machine.specs.Runs.{IsRun}
use Rattle.osek_machine.specs.State.{MachineState}
use Rattle.counted_loops.specs.Found.{found_timing, IsDeclaredBut}
use Rattle.reports.specs.Solved.{bound_text}
use Rattle.inputs.specs.Meaning.{AreDeclared}
use Rattle.loops_command.specs.Loops.{loop_lines}

-- No activation of the task lasts longer, in cycles, in any run of the machine that keeps what is declared, of the loops for
-- those alone for which no bound was found.
abbrev pub LastsAtMostBut : ImageData → System → Timing → List (Option ℕ) → ℕ → ℕ → Type 0
LastsAtMostBut image system timing found task bound =
    (mode : ℕ) (events : List Event) (state : MachineState) (activation : Activation)
    → IsRun image system mode events state → IsDeclaredBut image system timing found events
    → Contains (activations system mode events) activation → activation.task ≡ task → activation.cycles ≤ bound

-- A run of the machine that keeps what is declared, of the loops for those alone for which no bound was found, keeps the found
-- bounds too.
abbrev pub AreKept : ImageData → System → Timing → List (Option ℕ) → Type 0
AreKept image system timing found = (mode : ℕ) (events : List Event) (state : MachineState)
    → IsRun image system mode events state → IsDeclaredBut image system timing found events
    → IsDeclared image system (found_timing timing found) events

-- The files are a system with a task of the name, its image and its timing; the text has a line for each declared loop, with
-- the bound that was found for it or `-`, and a bound of the task. Each run keeps the found bounds, and no activation lasts longer.
pub record BoundsByCode (name text oil elf timing : List ℕ) : Type 0 where
  pub declared : AreDeclared oil elf timing
  pub task : ℕ
  pub named : task_named declared.system name ≡ Some task
  pub found : List (Option ℕ)
  pub bound : ℕ
  pub told : text ≡ loop_lines declared.times.loops found ++ bound_text name bound
  pub kept : AreKept declared.image declared.system declared.times found
  pub lasts : LastsAtMostBut declared.image declared.system declared.times found task bound
