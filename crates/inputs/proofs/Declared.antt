-- From the steps that read a system, an image and a timing to what their files are.
use Rattle.std.proofs.Common.{◌≡◌, ℕ, List, [], Option, Result, Ok, ap, ◌∙◌, subst}
use Rattle.wcet_io.specs.Files.{FilesOutside}
use Rattle.elf_image.specs.Image.{ImageData}
use Rattle.oil_model.specs.declared.system.System.{System}
use Rattle.timing_file.specs.declared.timing.Timing.{Timing}
use Rattle.wcet_atomic_blocks.specs.Plants.{PlantData, IsPlantOf}
use Rattle.command_steps.specs.declared.halt.Refusal.{Refusal}
use Rattle.command_steps.specs.Steps.{Calls, IsCall, Step, Judged, Then}
use Rattle.command_steps.proofs.Given.{then_ok, file_ok, WasRead}
use Rattle.inputs.specs.Inputs.{image_limit, oil_limit, HasTree, OilTree, HasSystem}
use Rattle.inputs.specs.Plants.{timing_limit, HasImage, HasTiming, HasPlant, OilSystem, ElfImage, TimingFile, PlantOf}
use Rattle.inputs.specs.Meaning.{LastsAtMost, AreBytesOf, AreDeclared, OfSystem}
use Rattle.inputs.proofs.Honest.{system_honest, image_honest}

-- ---- the bytes of files

-- the file that is read first
pub first_bytes : {F X : Type 0} (outside : F → FilesOutside) (reads : Calls F) (start : F) (name : List ℕ) (limit : ℕ)
    (Fact : List ℕ → Result X Refusal → Type 0) (x : X)
    → (was : WasRead (IsCall outside reads) name limit Fact start x) → AreBytesOf outside reads start name was.bytes
first_bytes outside reads start name limit Fact x was =
    record { before = start; limit = limit; after = was.after; read = was.read; told = was.read.tells.content.whole }

-- a file that is read later holds what the object told of it at the start
pub later_bytes : {F X : Type 0} (outside : F → FilesOutside) (reads : Calls F) (start now : F) (name : List ℕ) (limit : ℕ)
    (Fact : List ℕ → Result X Refusal → Type 0) (x : X) → (outside now).told ≡ (outside start).told
    → (was : WasRead (IsCall outside reads) name limit Fact now x) → AreBytesOf outside reads start name was.bytes
later_bytes outside reads start now name limit Fact x same was = record {
  before = now;
  limit = limit;
  after = was.after;
  read = was.read;
  told = λ content told. was.read.tells.content.whole content (ap (λ (t : List ℕ → Option (List ℕ)). t name) same ∙ told);
}

-- ---- the three files

-- what is judged of a system, an image and a timing
abbrev pub Judging : Type 0 → Type 1
Judging X = ImageData → System → Timing → Result X Refusal → Type 0

-- the steps that read the three and judge them
abbrev pub OfThree : {F X : Type 0} → Calls F → List ℕ → List ℕ → List ℕ → Judging X → Step F X
OfThree calls oil elf timing Fact =
    Then (OilSystem calls oil) (λ system. Then (ElfImage calls elf) (λ image. Then (TimingFile calls timing) (λ times. Judged (Fact image system times))))

-- they are declared by the bytes, and what was judged holds of them
pub record AreJudged {X : Type 0} (Fact : Judging X) (x : X) (oil elf timing : List ℕ) : Type 0 where
  pub declared : AreDeclared oil elf timing
  pub fact : Fact declared.image declared.system declared.times (Ok x)

pub judged_three : {F X : Type 0} (outside : F → FilesOutside) (reads : Calls F) (start : F) (oil elf timing : List ℕ) (Fact : Judging X) (x : X) (after : F)
    → OfThree (IsCall outside reads) oil elf timing Fact start (Ok x) after
    → OfSystem (AreBytesOf outside reads start) oil elf timing (AreJudged Fact x)
judged_three outside reads start oil elf timing Fact x after steps =
    let calls = IsCall outside reads in
    let one = then_ok (OilSystem calls oil)
    (λ system. Then (ElfImage calls elf) (λ image. Then (TimingFile calls timing) (λ times. Judged (Fact image system times)))) start x after steps in
    let tree = then_ok (OilTree calls oil) (λ tree. Judged (HasSystem tree)) start one.0 one.1 one.2 in
    let was_oil = file_ok calls oil oil_limit HasTree start tree.0 tree.1 tree.2 in
    let two = then_ok (ElfImage calls elf) (λ image. Then (TimingFile calls timing) (λ times. Judged (Fact image one.0 times))) one.1 x after one.3 in
    let was_elf = file_ok calls elf image_limit HasImage one.1 two.0 two.1 two.2 in
    let three = then_ok (TimingFile calls timing) (λ times. Judged (Fact two.0 one.0 times)) two.1 x after two.3 in
    let was_timing = file_ok calls timing timing_limit HasTiming two.1 three.0 three.1 three.2 in
    let told_one : (outside one.1).told ≡ (outside start).told =
    ((system_honest outside reads oil elf timing []).leaves start (Ok one.0) one.1 one.2).goes_on.kept in
    let told_two : (outside two.1).told ≡ (outside start).told =
    ((image_honest outside reads oil elf timing []).leaves one.1 (Ok two.0) two.1 two.2).goes_on.kept ∙ told_one in (
      was_oil.bytes,
      first_bytes outside reads start oil oil_limit HasTree tree.0 was_oil,
      (
        was_elf.bytes,
        later_bytes outside reads start one.1 elf image_limit HasImage two.0 told_one was_elf,
        (
          was_timing.bytes,
          later_bytes outside reads start two.1 timing timing_limit HasTiming three.0 told_two was_timing,
          record {
            declared = record {
              tree = tree.0;
              is_text = was_oil.fact;
              system = one.0;
              system_is = tree.3.1;
              image = two.0;
              image_is = was_elf.fact;
              times = three.0;
              times_are = was_timing.fact;
            };
            fact = three.3.1;
          },
        ),
      ),
    )

-- what holds of the bytes of the three holds of what follows from it
pub of_system : (Bytes : List ℕ → List ℕ → Type 0) (oil elf timing : List ℕ) (P Q : List ℕ → List ℕ → List ℕ → Type 0)
    → ((o e t : List ℕ) → P o e t → Q o e t) → OfSystem Bytes oil elf timing P → OfSystem Bytes oil elf timing Q
of_system Bytes oil elf timing P Q follows (o, is_oil, (e, is_elf, (t, is_timing, holds))) =
    (o, is_oil, (e, is_elf, (t, is_timing, follows o e t holds)))

-- ---- their plant

-- the three declare a plant
pub record DeclarePlant (plant : PlantData) (oil elf timing : List ℕ) : Type 0 where
  pub declared : AreDeclared oil elf timing
  pub plant_is : IsPlantOf declared.image declared.system declared.times plant

pub plant_declared : {F : Type 0} (outside : F → FilesOutside) (reads : Calls F) (start : F) (oil elf timing : List ℕ) (plant : PlantData) (after : F)
    → PlantOf (IsCall outside reads) oil elf timing start (Ok plant) after
    → OfSystem (AreBytesOf outside reads start) oil elf timing (DeclarePlant plant)
plant_declared outside reads start oil elf timing plant after steps =
    of_system (AreBytesOf outside reads start) oil elf timing (AreJudged HasPlant plant) (DeclarePlant plant)
    (λ o e t judged. record { declared = judged.declared; plant_is = judged.fact })
    (judged_three outside reads start oil elf timing HasPlant plant after steps)

-- activations of a plant are those of its image, its system and its timing
pub lasts_as : (image : ImageData) (system : System) (timing : Timing) (plant : PlantData) (task bound : ℕ) → IsPlantOf image system timing plant
    → LastsAtMost plant.image plant.system plant.timing task bound → LastsAtMost image system timing task bound
lasts_as image system timing plant task bound of bounds =
    subst (λ (i : ImageData). LastsAtMost i system timing task bound) of.image_is
    (subst (λ (s : System). LastsAtMost plant.image s timing task bound) of.system_is
    (subst (λ (t : Timing). LastsAtMost plant.image plant.system t task bound) of.timing_is bounds))
