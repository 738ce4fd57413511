-- The lines of `demo`: each `NAME bound N seen M` bounds its task, those before a refusal too.
use Rattle.std.specs.Prelude.{◌≡◌, ℕ, ◌<◌, List, Ok}
use Rattle.wcet_atomic_blocks.specs.Plants.{PlantData}
use Rattle.replay.specs.declared.response.Response.{Response}
use Rattle.inputs.specs.Meaning.{LastsAtMost}
use Rattle.demo_gen.specs.Demo.{the_states}
use Rattle.demo_runs.specs.Laws.{IsDemoPlant}
use Rattle.demo_command.specs.Demo.{AnswersTaskAt}
use Rattle.demo_command.specs.Texts.{line_of}

abbrev pub LinesBound : Type 0
LinesBound = (seed count : ℕ) (plant : PlantData) (responses : List Response) (task : ℕ) (line : List ℕ)
    → IsDemoPlant seed count plant → task < count → AnswersTaskAt plant (the_states count) responses task (Ok line)
    → (bound : ℕ) × (line ≡ line_of plant.system responses task bound) × LastsAtMost plant.image plant.system plant.timing task bound
