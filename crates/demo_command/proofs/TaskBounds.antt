-- The lines of `demo`: each bounds its task, and together they have a line for each task.
use Rattle.std.proofs.Common.{◌≡◌, ℕ, ◌<◌, List, [], length, Ok, ap, ◌∙◌, arith}
use Rattle.std.proofs.lemmas.List.{length-map}
use Rattle.oil_model.specs.declared.system.System.{System}
use Rattle.wcet_atomic_blocks.specs.Plants.{PlantData}
use Rattle.activation_windows.specs.Bounds.{AreFor}
use Rattle.replay.specs.declared.response.Response.{Response}
use Rattle.bound_commands.proofs.AllBounds.{AreLines, line_bounds, are_lines}
use Rattle.demo_gen.specs.Demo.{system_task, the_states}
use Rattle.demo_gen.specs.Draws.{tasks_of}
use Rattle.demo_runs.specs.Laws.{IsDemoPlant}
use Rattle.demo_command.specs.Demo.{AnswersTaskAt, AnswersLines}
use Rattle.demo_command.specs.Lines.{LinesBound}
use Rattle.demo_command.specs.Texts.{line_of, states_line}
use Rattle.demo_command.proofs.States.{tasks_many, plant_ready}

task_for : (seed count : ℕ) (plant : PlantData) (task : ℕ) → IsDemoPlant seed count plant → task < count → AreFor plant (the_states count) task
task_for seed count plant task is below =
    let ready = plant_ready seed count plant is in
    let many : length plant.system.tasks ≡ count =
    ap (λ (s : System). length s.tasks) is.plant_is.system_is ∙ length-map (tasks_of seed count) system_task ∙ tasks_many seed count in
    record { belongs = is.plant_is.belong; closed = ready.closed; once = ready.lawful.once; exists = omega (arith, below, many) }

pub lines_bound : LinesBound
lines_bound seed count plant responses task line is below answers =
    line_bounds plant (the_states count) (line_of plant.system responses) task line (task_for seed count plant task is below) answers

pub lines_told : (seed count : ℕ) (plant : PlantData) (responses : List Response) (text : List ℕ) → IsDemoPlant seed count plant
    → AnswersLines plant (the_states count) responses count (Ok text)
    → AreLines plant (line_of plant.system responses) (states_line (length (the_states count))) count 0 [] text
lines_told seed count plant responses text is answers =
    are_lines plant (AnswersTaskAt plant (the_states count) responses) (line_of plant.system responses) (states_line (length (the_states count))) count count 0 []
    text (λ place line below told. lines_bound seed count plant responses place line is below told) (omega arith) answers
