-- From the steps that say what is analysed, and over which states, to what bounds of it mean.
use Rattle.std.proofs.Common.{◌≡◌, ℕ, ◌<◌, List, length, Some, Ok, ap, sym, subst, arith}
use Rattle.std.specs.Prelude.{IsUtf8}
use Rattle.wcet_io.specs.Files.{FilesOutside}
use Rattle.elf_image.specs.Image.{ImageData}
use Rattle.oil_model.specs.declared.system.System.{System}
use Rattle.oil_model.specs.Answers.{task_named}
use Rattle.oil_model.specs.Lone.{the_lone_system}
use Rattle.timing_file.specs.Unit.{the_unit_timing}
use Rattle.wcet_atomic_blocks.specs.Plants.{PlantData, IsPlant, IsPlantOf}
use Rattle.abstract_sched.specs.declared.states.AbsState.{AbsState}
use Rattle.abstract_sched.specs.Fits.{AreLawful}
use Rattle.scheduler_moves.specs.Closed.{IsClosed}
use Rattle.scheduler_moves.specs.Moves.{rules_of}
use Rattle.command_steps.specs.Steps.{Calls, IsCall, Judged}
use Rattle.command_steps.proofs.Given.{then_ok, file_ok}
use Rattle.inputs.specs.declared.subjects.Analysed.{Analysed}
use Rattle.inputs.specs.declared.subjects.Subject.{Subject}
use Rattle.inputs.specs.declared.subjects.Subject.TheVariants.{Lone, Named}
use Rattle.inputs.specs.Inputs.{image_limit, states_limit}
use Rattle.inputs.specs.States.{HasStates, HasClosed, StatesFile, ClosedStates}
use Rattle.inputs.specs.Subjects.{HasLone, HasTask, AnalysedOf, name_of}
use Rattle.inputs.specs.Meaning.{LastsAtMost, AreBytesOf, BoundsTask, BoundsSubject}
use Rattle.inputs.proofs.Declared.{Judging, AreJudged, first_bytes, lasts_as, of_system, judged_three}
use Rattle.inputs.proofs.Given.{states_lawful}
use Rattle.inputs.proofs.TaskNames.{lone_name_is_text, task_exists, task_name_is_text}

-- ---- what is analysed

-- No activation of the task of the plant lasts longer.
abbrev pub PlantLasts : PlantData → ℕ → ℕ → Type 0
PlantLasts plant task bound = LastsAtMost plant.image plant.system plant.timing task bound

-- It is a task of a plant, its name is a text, and what bounds its activations bounds those of what the files are.
pub record IsAnalysed (Bytes : List ℕ → List ℕ → Type 0) (subject : Subject) (analysed : Analysed) : Type 0 where
  pub belongs : IsPlant analysed.plant
  pub exists : analysed.task < length analysed.plant.system.tasks
  pub text : IsUtf8 (name_of subject)
  pub bounds : (bound : ℕ) → PlantLasts analysed.plant analysed.task bound → BoundsSubject Bytes subject bound

-- ---- the task of a flat image

lone_lasts : (image : ImageData) (analysed : Analysed) (bound : ℕ) → analysed.task ≡ 0
    → IsPlantOf image the_lone_system the_unit_timing analysed.plant
    → PlantLasts analysed.plant analysed.task bound → LastsAtMost image the_lone_system the_unit_timing 0 bound
lone_lasts image analysed bound first of bounds =
    subst (λ (task : ℕ). LastsAtMost image the_lone_system the_unit_timing task bound) first
    (lasts_as image the_lone_system the_unit_timing analysed.plant analysed.task bound of bounds)

lone_exists : (image : ImageData) (analysed : Analysed) → analysed.task ≡ 0
    → IsPlantOf image the_lone_system the_unit_timing analysed.plant → analysed.task < length analysed.plant.system.tasks
lone_exists image analysed first of =
    let count : length analysed.plant.system.tasks ≡ 1 = ap (λ (s : System). length s.tasks) of.system_is in
    omega (arith, first, count)

lone_analysed : {F : Type 0} (outside : F → FilesOutside) (reads : Calls F) (start : F) (name : List ℕ) (analysed : Analysed) (after : F)
    → AnalysedOf (IsCall outside reads) (Lone name) start (Ok analysed) after
    → IsAnalysed (AreBytesOf outside reads start) (Lone name) analysed
lone_analysed outside reads start name analysed after steps =
    let was = file_ok (IsCall outside reads) name image_limit HasLone start analysed after steps in
    let fact : HasLone was.bytes (Ok analysed) = was.fact in
    record {
      belongs = fact.3.belong;
      exists = lone_exists fact.0 analysed fact.2 fact.3;
      text = lone_name_is_text;
      bounds = λ bound bounds. (
        was.bytes,
        first_bytes outside reads start name image_limit HasLone analysed was,
        record { image = fact.0; is_flat = fact.1; lasts = lone_lasts fact.0 analysed bound fact.2 fact.3 bounds },
      );
    }

-- ---- a task of a system

-- what is judged of a system, an image and a timing where a task is named
abbrev judged_task : List ℕ → Judging Analysed
judged_task name image system timing = HasTask image system name timing

task_lasts : (name : List ℕ) (analysed : Analysed) (bound : ℕ) → PlantLasts analysed.plant analysed.task bound
    → (oil elf timing : List ℕ) → AreJudged (judged_task name) analysed oil elf timing → BoundsTask name bound oil elf timing
task_lasts name analysed bound bounds oil elf timing judged = record {
  declared = judged.declared;
  task = analysed.task;
  named = judged.fact.0;
  lasts = lasts_as judged.declared.image judged.declared.system judged.declared.times analysed.plant analysed.task bound judged.fact.1 bounds;
}

named_in_plant : (name : List ℕ) (analysed : Analysed) (oil elf timing : List ℕ) → AreJudged (judged_task name) analysed oil elf timing
    → task_named analysed.plant.system name ≡ Some analysed.task
named_in_plant name analysed oil elf timing judged =
    subst (λ (s : System). task_named s name ≡ Some analysed.task) (sym judged.fact.1.system_is) judged.fact.0

task_analysed : {F : Type 0} (outside : F → FilesOutside) (reads : Calls F) (start : F) (oil elf timing name : List ℕ) (analysed : Analysed) (after : F)
    → AnalysedOf (IsCall outside reads) (Named oil elf timing name) start (Ok analysed) after
    → IsAnalysed (AreBytesOf outside reads start) (Named oil elf timing name) analysed
task_analysed outside reads start oil elf timing name analysed after steps =
    let three = judged_three outside reads start oil elf timing (judged_task name) analysed after steps in
    let judged : AreJudged (judged_task name) analysed three.0 three.2.0 three.2.2.0 = three.2.2.2 in
    let plant_is = judged.fact.1 in
    let is_named : task_named analysed.plant.system name ≡ Some analysed.task = named_in_plant name analysed three.0 three.2.0 three.2.2.0 judged in
    record {
      belongs = plant_is.belong;
      exists = task_exists analysed.plant.system name analysed.task is_named;
      text = task_name_is_text analysed.plant.system name analysed.task plant_is.belong.system is_named;
      bounds = λ bound bounds. of_system (AreBytesOf outside reads start) oil elf timing (AreJudged (judged_task name) analysed) (BoundsTask name bound)
          (task_lasts name analysed bound bounds) three;
    }

-- ---- both

pub is_analysed : {F : Type 0} (outside : F → FilesOutside) (reads : Calls F) (start : F) (subject : Subject) (analysed : Analysed) (after : F)
    → AnalysedOf (IsCall outside reads) subject start (Ok analysed) after → IsAnalysed (AreBytesOf outside reads start) subject analysed
is_analysed outside reads start (Lone name) analysed after steps = lone_analysed outside reads start name analysed after steps
is_analysed outside reads start (Named oil elf timing name) analysed after steps =
    task_analysed outside reads start oil elf timing name analysed after steps

-- ---- closed lists of states

-- states that a file lists, each of them once, and that are closed
pub record AreClosed (plant : PlantData) (states : List AbsState) : Type 0 where
  pub closed : IsClosed plant states
  pub lawful : AreLawful (rules_of plant) states

pub are_closed : {F : Type 0} (outside : F → FilesOutside) (reads : Calls F) (start : F) (name : List ℕ) (plant : PlantData)
    (states : List AbsState) (after : F)
    → ClosedStates (IsCall outside reads) name plant start (Ok states) after → AreClosed plant states
are_closed outside reads start name plant states after steps =
    let calls = IsCall outside reads in
    let one = then_ok (StatesFile calls name plant) (λ listed. Judged (HasClosed plant listed)) start states after steps in
    let was = file_ok calls name states_limit (HasStates plant) start one.0 one.1 one.2 in
    let judged : HasClosed plant one.0 (Ok states) = one.3.1 in
    subst (λ (listed : List AbsState). AreClosed plant listed) (sym judged.0)
    (record { closed = judged.1; lawful = states_lawful plant was.bytes one.0 was.fact })
