-- From the steps of `loops` to what its text means.
use Rattle.std.proofs.Common.{◌≡◌, ℕ, ◌<◌, List, ◌++◌, length, Option, Ok, sym, ◌∙◌, ap, subst}
use Rattle.wcet_io.specs.Files.{FilesOutside}
use Rattle.elf_image.specs.Image.{ImageData}
use Rattle.oil_model.specs.declared.system.System.{System}
use Rattle.timing_file.specs.declared.timing.Timing.{Timing}
use Rattle.osek_machine.specs.Declarations.{IsDeclared}
use Rattle.osek_machine.specs.Events.{Event}
use Rattle.osek_machine.specs.Runs.{IsRun}
use Rattle.osek_machine.specs.State.{MachineState}
use Rattle.wcet_atomic_blocks.specs.Plants.{PlantData, IsPlant, IsPlantOf}
use Rattle.abstract_sched.specs.declared.states.AbsState.{AbsState}
use Rattle.scheduler_moves.specs.Closed.{IsClosed}
use Rattle.shadow_runs.proofs.Covering.{nothing_is_misused}
use Rattle.row_build.specs.Rows.{rows_of}
use Rattle.bound_solver.specs.Bounds.{solved_rows, bound_outcome}
use Rattle.counted_loops.specs.Bounds.{found_plant, BoundsActivationsBut}
use Rattle.counted_loops.specs.Counted.{AreFound}
use Rattle.counted_loops.specs.Found.{found_timing, IsDeclaredBut}
use Rattle.counted_loops.proofs.Keeping.{plant_stays, code_keeps_found, found_timings_bound}
use Rattle.command_steps.specs.Steps.{Calls, IsCall, Judged}
use Rattle.command_steps.proofs.Given.{then_ok}
use Rattle.reports.specs.Solved.{bound_text}
use Rattle.inputs.specs.declared.subjects.Analysed.{Analysed}
use Rattle.inputs.specs.declared.subjects.Subject.{Subject}
use Rattle.inputs.specs.declared.subjects.Subject.TheVariants.{Named}
use Rattle.inputs.specs.Meaning.{AreBytesOf, OfSystem}
use Rattle.inputs.specs.States.{ClosedStates}
use Rattle.inputs.specs.Subjects.{HasTask, AnalysedOf}
use Rattle.inputs.proofs.Analysing.{IsAnalysed, AreClosed, is_analysed, are_closed}
use Rattle.inputs.proofs.Declared.{Judging, AreJudged, of_system, judged_three}
use Rattle.bound_commands.specs.Solving.{AnswersTask, bound_saying, usual_pivots}
use Rattle.bound_commands.proofs.Lasting.{closed_for, optimum_said}
use Rattle.bound_commands.proofs.Saying.{said_bounds}
use Rattle.loops_command.specs.declared.found_loops.FoundLoops.{FoundLoops}
use Rattle.loops_command.specs.Loops.{found_analysed, loop_lines, AreFoundLoops, HasFound, AnswersLoops, FoundOn, LoopsOn, Loops}
use Rattle.loops_command.specs.Meaning.{AreKept, LastsAtMostBut, BoundsByCode}

-- ---- The bound

-- the line of the task bounds it in every run that keeps what is declared but for counted loops, whose found bounds the run keeps
record IsBounded (name line : List ℕ) (analysed : Analysed) (found : List (Option ℕ)) : Type 0 where
  bound : ℕ
  line_is : line ≡ bound_text name bound
  kept : AreKept analysed.plant.image analysed.plant.system analysed.plant.timing found
  lasts : BoundsActivationsBut analysed.plant found analysed.task bound

found_are_kept : (plant : PlantData) (found : List (Option ℕ)) (states : List AbsState) → IsPlant plant
    → AreFound plant.image plant.system plant.flow plant.timing.loops found → IsClosed (found_plant plant found) states
    → AreKept plant.image plant.system plant.timing found
found_are_kept plant found states belongs are closed mode events state run kept =
    code_keeps_found plant found mode events state belongs are run (nothing_is_misused (found_plant plant found) states mode events state
    (record { belongs = plant_stays plant found belongs are; closed = closed; run = run; pairs = kept.returns })) kept

is_bounded : (name line : List ℕ) (analysed : Analysed) (found : List (Option ℕ)) (listed : List AbsState) → IsPlant analysed.plant
    → analysed.task < length analysed.plant.system.tasks
    → AreFound analysed.plant.image analysed.plant.system analysed.plant.flow analysed.plant.timing.loops found
    → AreClosed (found_plant analysed.plant found) listed
    → AnswersTask (bound_saying name) usual_pivots (found_analysed analysed found) listed (Ok line) → IsBounded name line analysed found
is_bounded name line analysed found listed belongs exists are closed says =
    let plant : PlantData = found_plant analysed.plant found in
    let task : ℕ = analysed.task in
    let optimum = optimum_said (bound_saying name) (rows_of plant listed task) (solved_rows plant listed task) usual_pivots
    (bound_outcome plant listed task usual_pivots) line says in
    let bounds = said_bounds plant listed task name line
    (closed_for plant listed task (plant_stays analysed.plant found belongs are) exists closed) optimum in
    record {
      bound = bounds.0;
      line_is = bounds.1;
      kept = found_are_kept analysed.plant found listed belongs are closed.closed;
      lasts = found_timings_bound analysed.plant found listed task bounds.0 belongs are closed.closed bounds.2;
    }

-- ---- The files

abbrev judged_task : List ℕ → Judging Analysed
judged_task name image system timing = HasTask image system name timing

lasts_but_as : (image : ImageData) (system : System) (timing : Timing) (plant : PlantData) (found : List (Option ℕ)) (task bound : ℕ)
    → IsPlantOf image system timing plant → BoundsActivationsBut plant found task bound → LastsAtMostBut image system timing found task bound
lasts_but_as image system timing plant found task bound of bounds =
    subst (λ (i : ImageData). LastsAtMostBut i system timing found task bound) of.image_is
    (subst (λ (s : System). LastsAtMostBut plant.image s timing found task bound) of.system_is
    (subst (λ (t : Timing). LastsAtMostBut plant.image plant.system t found task bound) of.timing_is bounds))

kept_as : (image : ImageData) (system : System) (timing : Timing) (plant : PlantData) (found : List (Option ℕ))
    → IsPlantOf image system timing plant → AreKept plant.image plant.system plant.timing found → AreKept image system timing found
kept_as image system timing plant found of kept =
    subst (λ (i : ImageData). AreKept i system timing found) of.image_is
    (subst (λ (s : System). AreKept plant.image s timing found) of.system_is
    (subst (λ (t : Timing). AreKept plant.image plant.system t found) of.timing_is kept))

means : (name text line : List ℕ) (analysed : Analysed) (loops : FoundLoops) → (made : AreFoundLoops analysed loops) → IsBounded name line analysed made.found
    → text ≡ loops.lines ++ line → (oil elf timing : List ℕ) → AreJudged (judged_task name) analysed oil elf timing → BoundsByCode name text oil elf timing
means name text line analysed loops made bounded is oil elf timing judged = record {
  declared = judged.declared;
  task = analysed.task;
  named = judged.fact.0;
  found = made.found;
  bound = bounded.bound;
  told = is ∙ (ap (λ t. t ++ line) (made.lines_are ∙ ap (λ (t : Timing). loop_lines t.loops made.found) judged.fact.1.timing_is)
      ∙ ap (λ t. loop_lines judged.declared.times.loops made.found ++ t) bounded.line_is);
  kept = kept_as judged.declared.image judged.declared.system judged.declared.times analysed.plant made.found judged.fact.1 bounded.kept;
  lasts = lasts_but_as judged.declared.image judged.declared.system judged.declared.times analysed.plant made.found analysed.task bounded.bound judged.fact.1
      bounded.lasts;
}

-- ---- The command

pub loops_says : {F : Type 0} (outside : F → FilesOutside) (reads : Calls F) (start : F) (oil elf timing task states text : List ℕ) (after : F)
    → Loops (IsCall outside reads) oil elf timing task states start (Ok text) after
    → OfSystem (AreBytesOf outside reads start) oil elf timing (BoundsByCode task text)
loops_says outside reads start oil elf timing task states text after steps =
    let calls = IsCall outside reads in
    let subject : Subject = Named oil elf timing task in
    let one = then_ok (AnalysedOf calls subject) (LoopsOn calls states task) start text after steps in
    let analysed : Analysed = one.0 in
    let is : IsAnalysed (AreBytesOf outside reads start) subject analysed = is_analysed outside reads start subject analysed one.1 one.2 in
    let two = then_ok (Judged (HasFound analysed)) (FoundOn calls states task) one.1 text after one.3 in
    let loops : FoundLoops = two.0 in
    let made : AreFoundLoops analysed loops = two.2.1 in
    let three = then_ok (ClosedStates calls states loops.analysed.plant) (λ listed. Judged (AnswersLoops task loops listed)) two.1 text after two.3 in
    let listed : List AbsState = three.0 in
    let answer : AnswersLoops task loops listed (Ok text) = three.3.1 in
    let closed : AreClosed (found_plant analysed.plant made.found) listed = subst (λ (a : Analysed). AreClosed a.plant listed) made.analysed_is
    (are_closed outside reads two.1 states loops.analysed.plant listed three.1 three.2) in
    let says : AnswersTask (bound_saying task) usual_pivots (found_analysed analysed made.found) listed (Ok answer.0) =
    subst (λ (a : Analysed). AnswersTask (bound_saying task) usual_pivots a listed (Ok answer.0)) made.analysed_is answer.1 in
    let bounded = is_bounded task answer.0 analysed made.found listed is.belongs is.exists made.are closed says in
    of_system (AreBytesOf outside reads start) oil elf timing (AreJudged (judged_task task) analysed) (BoundsByCode task text)
    (means task text answer.0 analysed loops made bounded answer.2)
    (judged_three outside reads start oil elf timing (judged_task task) analysed one.1 one.2)
