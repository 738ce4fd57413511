-- What the steps of inputs leave of the outside: each reads files of the named ones only.
use Rattle.std.proofs.Common.{ℕ, List, ◌∷◌, ◌++◌, Contains, refl, arith}
use Rattle.wcet_io.specs.Files.{FilesOutside}
use Rattle.elf_image.specs.Image.{ImageData}
use Rattle.oil_grammar.specs.declared.tree.Tree.{Tree}
use Rattle.oil_model.specs.declared.system.System.{System}
use Rattle.timing_file.specs.declared.timing.Timing.{Timing}
use Rattle.wcet_atomic_blocks.specs.Plants.{PlantData}
use Rattle.abstract_sched.specs.declared.states.AbsState.{AbsState}
use Rattle.command_steps.specs.Steps.{Calls, IsCall, Judged}
use Rattle.command_steps.proofs.Honest.{IsHonest, file, judged, joined}
use Rattle.inputs.specs.declared.subjects.Analysed.{Analysed}
use Rattle.inputs.specs.declared.subjects.Subject.{Subject}
use Rattle.inputs.specs.declared.subjects.Subject.TheVariants.{Lone, Named}
use Rattle.inputs.specs.Inputs.{image_limit, states_limit, oil_limit, HasTree, OilTree, HasSystem}
use Rattle.inputs.specs.Plants.{timing_limit, HasImage, HasTiming, HasPlant, OilSystem, ElfImage, TimingFile, PlantWithTiming, PlantWithImage, PlantOf}
use Rattle.inputs.specs.Schedules.{schedule_limit, HasSchedule, ScheduleFile}
use Rattle.inputs.specs.States.{HasCertificate, HasStates, HasClosed, CertificateFile, StatesFile, ClosedStates}
use Rattle.inputs.specs.Subjects.{HasLone, HasTask, TaskWithImage, TaskWithTiming, AnalysedOf, subject_files}

-- ---- the places of names

pub first : (x : List ℕ) (xs : List (List ℕ)) → Contains (x ∷ xs) x
first x xs = (0, omega arith, refl)

pub second : (x y : List ℕ) (xs : List (List ℕ)) → Contains (x ∷ y ∷ xs) y
second x y xs = (1, omega arith, refl)

pub third : (x y z : List ℕ) (xs : List (List ℕ)) → Contains (x ∷ y ∷ z ∷ xs) z
third x y z xs = (2, omega arith, refl)

pub fourth : (x y z u : List ℕ) (xs : List (List ℕ)) → Contains (x ∷ y ∷ z ∷ u ∷ xs) u
fourth x y z u xs = (3, omega arith, refl)

pub fifth : (x y z u v : List ℕ) (xs : List (List ℕ)) → Contains (x ∷ y ∷ z ∷ u ∷ v ∷ xs) v
fifth x y z u v xs = (4, omega arith, refl)

-- the file behind what is analysed, and the one behind that
pub behind : (subject : Subject) (name : List ℕ) (others : List (List ℕ)) → Contains (subject_files subject ++ name ∷ others) name
behind (Lone image) name others = second image name others
behind (Named oil elf timing task) name others = fourth oil elf timing name others

pub next_behind : (subject : Subject) (one name : List ℕ) (others : List (List ℕ)) → Contains (subject_files subject ++ one ∷ name ∷ others) name
next_behind (Lone image) one name others = third image one name others
next_behind (Named oil elf timing task) one name others = fifth oil elf timing one name others

-- ---- a system, an image and a timing, among these files and others

-- the tree of an OIL file
pub tree_honest : {F : Type 0} (outside : F → FilesOutside) (reads : Calls F) (names : List (List ℕ)) (oil : List ℕ)
    → Contains names oil → IsHonest outside names (OilTree (IsCall outside reads) oil)
tree_honest outside reads names oil is_named = file outside reads names oil oil_limit HasTree is_named

pub system_honest : {F : Type 0} (outside : F → FilesOutside) (reads : Calls F) (oil elf timing : List ℕ) (others : List (List ℕ))
    → IsHonest outside (oil ∷ elf ∷ timing ∷ others) (OilSystem (IsCall outside reads) oil)
system_honest outside reads oil elf timing others =
    let names : List (List ℕ) = oil ∷ elf ∷ timing ∷ others in
    joined outside names (OilTree (IsCall outside reads) oil) (λ tree. Judged (HasSystem tree))
    (tree_honest outside reads names oil (first oil (elf ∷ timing ∷ others))) (λ (tree : Tree). judged outside names (HasSystem tree))

pub image_honest : {F : Type 0} (outside : F → FilesOutside) (reads : Calls F) (oil elf timing : List ℕ) (others : List (List ℕ))
    → IsHonest outside (oil ∷ elf ∷ timing ∷ others) (ElfImage (IsCall outside reads) elf)
image_honest outside reads oil elf timing others =
    file outside reads (oil ∷ elf ∷ timing ∷ others) elf image_limit HasImage (second oil elf (timing ∷ others))

pub timing_honest : {F : Type 0} (outside : F → FilesOutside) (reads : Calls F) (oil elf timing : List ℕ) (others : List (List ℕ))
    → IsHonest outside (oil ∷ elf ∷ timing ∷ others) (TimingFile (IsCall outside reads) timing)
timing_honest outside reads oil elf timing others =
    file outside reads (oil ∷ elf ∷ timing ∷ others) timing timing_limit HasTiming (third oil elf timing others)

-- the plant of the three
pub plant_honest : {F : Type 0} (outside : F → FilesOutside) (reads : Calls F) (oil elf timing : List ℕ) (others : List (List ℕ))
    → IsHonest outside (oil ∷ elf ∷ timing ∷ others) (PlantOf (IsCall outside reads) oil elf timing)
plant_honest outside reads oil elf timing others =
    let names : List (List ℕ) = oil ∷ elf ∷ timing ∷ others in
    let calls = IsCall outside reads in
    joined outside names (OilSystem calls oil) (PlantWithImage calls elf timing)
    (system_honest outside reads oil elf timing others)
    (λ (system : System). joined outside names (ElfImage calls elf) (PlantWithTiming calls timing system)
    (image_honest outside reads oil elf timing others)
    (λ (image : ImageData). joined outside names (TimingFile calls timing) (λ t. Judged (HasPlant image system t))
    (timing_honest outside reads oil elf timing others)
    (λ (times : Timing). judged outside names (HasPlant image system times))))

-- a task of theirs
pub task_honest : {F : Type 0} (outside : F → FilesOutside) (reads : Calls F) (oil elf timing task : List ℕ) (others : List (List ℕ))
    → IsHonest outside (oil ∷ elf ∷ timing ∷ others) (AnalysedOf (IsCall outside reads) (Named oil elf timing task))
task_honest outside reads oil elf timing task others =
    let names : List (List ℕ) = oil ∷ elf ∷ timing ∷ others in
    let calls = IsCall outside reads in
    joined outside names (OilSystem calls oil) (TaskWithImage calls elf timing task)
    (system_honest outside reads oil elf timing others)
    (λ (system : System). joined outside names (ElfImage calls elf) (TaskWithTiming calls timing task system)
    (image_honest outside reads oil elf timing others)
    (λ (image : ImageData). joined outside names (TimingFile calls timing) (λ times. Judged (HasTask image system task times))
    (timing_honest outside reads oil elf timing others)
    (λ (times : Timing). judged outside names (HasTask image system task times))))

-- ---- what is analysed, and the file behind it

pub analysed_honest : {F : Type 0} (outside : F → FilesOutside) (reads : Calls F) (subject : Subject) (others : List (List ℕ))
    → IsHonest outside (subject_files subject ++ others) (AnalysedOf (IsCall outside reads) subject)
analysed_honest outside reads (Lone image) others = file outside reads (image ∷ others) image image_limit HasLone (first image others)
analysed_honest outside reads (Named oil elf timing task) others = task_honest outside reads oil elf timing task others

-- a closed list of states
pub closed_honest : {F : Type 0} (outside : F → FilesOutside) (reads : Calls F) (names : List (List ℕ)) (states : List ℕ) (plant : PlantData)
    → Contains names states → IsHonest outside names (ClosedStates (IsCall outside reads) states plant)
closed_honest outside reads names states plant is_named =
    joined outside names (StatesFile (IsCall outside reads) states plant) (λ listed. Judged (HasClosed plant listed))
    (file outside reads names states states_limit (HasStates plant) is_named)
    (λ (listed : List AbsState). judged outside names (HasClosed plant listed))

-- a certificate
pub certificate_honest : {F : Type 0} (outside : F → FilesOutside) (reads : Calls F) (names : List (List ℕ)) (certificate name : List ℕ)
    (analysed : Analysed)
    → Contains names certificate → IsHonest outside names (CertificateFile (IsCall outside reads) certificate name analysed)
certificate_honest outside reads names certificate name analysed is_named =
    file outside reads names certificate states_limit (HasCertificate analysed name) is_named

-- a schedule
pub schedule_honest : {F : Type 0} (outside : F → FilesOutside) (reads : Calls F) (names : List (List ℕ)) (schedule : List ℕ) (plant : PlantData)
    → Contains names schedule → IsHonest outside names (ScheduleFile (IsCall outside reads) schedule plant)
schedule_honest outside reads names schedule plant is_named = file outside reads names schedule schedule_limit (HasSchedule plant) is_named
