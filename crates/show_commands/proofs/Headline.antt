-- From the steps of each command to what its text means.
use Rattle.std.proofs.Common.{◌≡◌, ℕ, List, [], ◌∷◌, Ok}
use Rattle.wcet_io.specs.Files.{FilesOutside}
use Rattle.wcet_atomic_blocks.specs.Plants.{PlantData}
use Rattle.command_steps.specs.Steps.{Calls, IsCall, Judged}
use Rattle.command_steps.proofs.Given.{then_ok, file_ok}
use Rattle.inputs.specs.Meaning.{AreBytesOf, OfSystem}
use Rattle.show_commands.specs.Shown.{ReplaysSchedule, ShowsCode, ShowsLayout}
use Rattle.inputs.specs.Inputs.{oil_limit, HasTree, OilTree}
use Rattle.inputs.specs.Plants.{PlantOf}
use Rattle.inputs.specs.Schedules.{schedule_limit, HasSchedule, ScheduleFile}
use Rattle.show_commands.specs.Replay.{HasPlayed, ReplayOn, Replay}
use Rattle.show_commands.specs.ShowCode.{code_text, ShowCode}
use Rattle.show_commands.specs.ShowOil.{HasLayout, ShowOil}
use Rattle.inputs.proofs.Honest.{plant_honest}
use Rattle.inputs.proofs.Declared.{DeclarePlant, first_bytes, later_bytes, of_system, plant_declared}

-- ---- show oil

pub show_oil_says : {F : Type 0} (outside : F → FilesOutside) (reads : Calls F) (start : F) (oil text : List ℕ) (after : F)
    → ShowOil (IsCall outside reads) oil start (Ok text) after
    → (bytes : List ℕ) × AreBytesOf outside reads start oil bytes × ShowsLayout bytes text
show_oil_says outside reads start oil text after steps =
    let calls = IsCall outside reads in
    let one = then_ok (OilTree calls oil) (λ tree. Judged (HasLayout tree)) start text after steps in
    let was = file_ok calls oil oil_limit HasTree start one.0 one.1 one.2 in
    let shown = one.3.1 in (
      was.bytes,
      first_bytes outside reads start oil oil_limit HasTree one.0 was,
      record
          { tree = one.0; is_text = was.fact; sound = shown.1.sound; layout = shown.2 },
    )

-- ---- show code

pub show_code_says : {F : Type 0} (outside : F → FilesOutside) (reads : Calls F) (start : F) (oil elf timing text : List ℕ) (after : F)
    → ShowCode (IsCall outside reads) oil elf timing start (Ok text) after
    → OfSystem (AreBytesOf outside reads start) oil elf timing (ShowsCode text)
show_code_says outside reads start oil elf timing text after steps =
    let calls = IsCall outside reads in
    let one = then_ok (PlantOf calls oil elf timing) (λ plant. Judged (λ given. given ≡ Ok (code_text plant))) start text after steps in
    let plant : PlantData = one.0 in
    of_system (AreBytesOf outside reads start) oil elf timing (DeclarePlant plant) (ShowsCode text)
    (λ o e t declares. record { declared = declares.declared; plant = plant; plant_is = declares.plant_is; shown = cc (one.3.1) })
    (plant_declared outside reads start oil elf timing plant one.1 one.2)

-- ---- replay

pub replay_says : {F : Type 0} (outside : F → FilesOutside) (reads : Calls F) (start : F) (oil elf timing schedule text : List ℕ) (after : F)
    → Replay (IsCall outside reads) oil elf timing schedule start (Ok text) after
    → (s : List ℕ) × AreBytesOf outside reads start schedule s × OfSystem (AreBytesOf outside reads start) oil elf timing (ReplaysSchedule s text)
replay_says outside reads start oil elf timing schedule text after steps =
    let calls = IsCall outside reads in
    let one = then_ok (PlantOf calls oil elf timing) (ReplayOn calls schedule) start text after steps in
    let plant : PlantData = one.0 in
    let two = then_ok (ScheduleFile calls schedule plant) (λ listed. Judged (HasPlayed plant listed)) one.1 text after one.3 in
    let was = file_ok calls schedule schedule_limit (HasSchedule plant) one.1 two.0 two.1 two.2 in
    let told : (outside one.1).told ≡ (outside start).told =
    ((plant_honest outside reads oil elf timing (schedule ∷ [])).leaves start (Ok plant) one.1 one.2).goes_on.kept in (
      was.bytes,
      later_bytes outside reads start one.1 schedule schedule_limit (HasSchedule plant) two.0 told was,
      of_system (AreBytesOf outside reads start) oil elf timing (DeclarePlant plant) (ReplaysSchedule was.bytes text)
          (λ o e t declares. record {
            declared = declares.declared;
            plant = plant;
            plant_is = declares.plant_is;
            listed = two.0;
            listed_is = was.fact;
            says = two.3.1;
          })
          (plant_declared outside reads start oil elf timing plant one.1 one.2),
    )
