-- From the step of the command to what its text means.
use Rattle.std.proofs.Common.{◌≡◌, ℕ, ◌+◌, List, ◌++◌, length, Ok, ap, ◌∙◌, subst, arith}
use Rattle.elf_image.specs.Image.{ImageData}
use Rattle.oil_model.specs.declared.system.System.{System}
use Rattle.timing_file.specs.declared.timing.Timing.{Timing}
use Rattle.wcet_io.specs.Files.{FilesOutside}
use Rattle.wcet_atomic_blocks.specs.Plants.{PlantData, IsPlantOf}
use Rattle.activation_windows.specs.Bounds.{BoundsActivations}
use Rattle.replay.specs.declared.response.Response.{Response}
use Rattle.replay.specs.declared.schedule.Schedule.{Schedule}
use Rattle.replay.specs.Play.{PlaysWhole}
use Rattle.command_steps.specs.Steps.{Calls, IsCall}
use Rattle.inputs.proofs.Declared.{lasts_as}
use Rattle.demo_gen.specs.Demo.{the_states}
use Rattle.demo_runs.specs.Schedule.{the_schedule}
use Rattle.demo_command.specs.Demo.{AnswersDemo, Demo}
use Rattle.demo_command.specs.Meaning.{BoundsDemo, lines_from}
use Rattle.demo_command.specs.Texts.{states_line}
use Rattle.demo_command.proofs.Declared.{demo_declares}
use Rattle.demo_command.proofs.States.{states_many}
use Rattle.demo_command.proofs.TaskBounds.{lines_told}

-- a run of a plant is one of its image, its system and its timing
plays_as : (image : ImageData) (system : System) (timing : Timing) (plant : PlantData) (schedule : Schedule) (responses : List Response)
    → IsPlantOf image system timing plant → PlaysWhole plant.image plant.system plant.timing schedule responses
    → PlaysWhole image system timing schedule responses
plays_as image system timing plant schedule responses of plays =
    subst (λ (i : ImageData). PlaysWhole i system timing schedule responses) of.image_is
    (subst (λ (s : System). PlaysWhole plant.image s timing schedule responses) of.system_is
    (subst (λ (t : Timing). PlaysWhole plant.image plant.system t schedule responses) of.timing_is plays))

answer_bounds : (seed count : ℕ) (text : List ℕ) → AnswersDemo seed count (Ok text) → BoundsDemo seed count text
answer_bounds seed count text answered =
    let plant : PlantData = answered.plant in
    let declares = demo_declares seed count plant answered.plant_is in
    let declared = declares.declared in
    let of = declares.plant_is in
    let lines = lines_told seed count plant answered.responses text answered.plant_is answered.answers in
    record {
      declared = declared;
      responses = answered.responses;
      plays = plays_as declared.image declared.system declared.times plant (the_schedule count) answered.responses of answered.plays;
      bounds = lines.bounds;
      for_each = lines.many;
      told = lines.told
          ∙ ap (λ (s : System). lines_from s answered.responses 0 lines.bounds ++ states_line (length (the_states count))) of.system_is
          ∙ ap (λ (n : ℕ). lines_from declared.system answered.responses 0 lines.bounds ++ states_line n) (states_many count answered.plant_is.few);
      lasts = λ task bound there. lasts_as declared.image declared.system declared.times plant task bound of
          (let same : 0 + task ≡ task = omega arith in subst (λ (n : ℕ). BoundsActivations plant n bound) same (lines.lasts task bound there));
    }

pub demo_says : {F : Type 0} (outside : F → FilesOutside) (reads : Calls F) (start : F) (seed count : ℕ) (text : List ℕ) (after : F)
    → Demo (IsCall outside reads) seed count start (Ok text) after → BoundsDemo seed count text
demo_says outside reads start seed count text after steps = answer_bounds seed count text steps.1
