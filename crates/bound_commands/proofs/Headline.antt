-- From the steps of each command to what its text means.
use Rattle.std.proofs.Common.{◌≡◌, ℕ, List, Ok}
use Rattle.wcet_io.specs.Files.{FilesOutside}
use Rattle.wcet_atomic_blocks.specs.Plants.{PlantData}
use Rattle.abstract_sched.specs.declared.states.AbsState.{AbsState}
use Rattle.row_build.specs.Rows.{rows_of}
use Rattle.activation_windows.specs.Bounds.{AreFor}
use Rattle.certificate.specs.declared.cert.Cert.{Cert}
use Rattle.bound_solver.specs.Bounds.{solved_rows, bound_outcome}
use Rattle.command_steps.specs.Steps.{Calls, IsCall, Judged}
use Rattle.command_steps.proofs.Given.{then_ok, file_ok}
use Rattle.inputs.specs.declared.subjects.Analysed.{Analysed}
use Rattle.inputs.specs.declared.subjects.Subject.{Subject}
use Rattle.bound_commands.specs.All.{AnswersAll, AllOn, All}
use Rattle.bound_commands.specs.Check.{HasVerdict, CheckOn, Check}
use Rattle.inputs.specs.Meaning.{AreBytesOf, OfSystem, BoundsSubject}
use Rattle.bound_commands.specs.Bounded.{BoundsAll, HasBound}
use Rattle.inputs.specs.Inputs.{states_limit}
use Rattle.inputs.specs.Plants.{PlantOf}
use Rattle.bound_commands.specs.Solving.{bound_saying, cert_saying, AnswersTask, BoundOn, Bound, CertifyOn, Certify}
use Rattle.inputs.specs.States.{HasCertificate, CertificateFile, ClosedStates}
use Rattle.inputs.specs.Subjects.{AnalysedOf, name_of}
use Rattle.bound_commands.proofs.AllBounds.{all_bounded}
use Rattle.inputs.proofs.Analysing.{IsAnalysed, AreClosed, is_analysed, are_closed}
use Rattle.bound_commands.proofs.Lasting.{closed_for, good_bounds, optimum_said}
use Rattle.inputs.proofs.Declared.{DeclarePlant, of_system, plant_declared}
use Rattle.inputs.proofs.Given.{cert_lawful}
use Rattle.bound_commands.proofs.Saying.{said_bounds, said_certified}
use Rattle.reports.specs.Solved.{bound_text}
use Rattle.reports.specs.Verdicts.{yes_text}

-- ---- check

pub check_says : {F : Type 0} (outside : F → FilesOutside) (reads : Calls F) (start : F) (subject : Subject) (certificate text : List ℕ) (after : F)
    → Check (IsCall outside reads) subject certificate start (Ok text) after
    → (bound : ℕ) × (text ≡ yes_text (name_of subject) bound) × BoundsSubject (AreBytesOf outside reads start) subject bound
check_says outside reads start subject certificate text after steps =
    let calls = IsCall outside reads in
    let name : List ℕ = name_of subject in
    let one = then_ok (AnalysedOf calls subject) (CheckOn calls certificate name) start text after steps in
    let analysed : Analysed = one.0 in
    let is : IsAnalysed (AreBytesOf outside reads start) subject analysed = is_analysed outside reads start subject analysed one.1 one.2 in
    let two = then_ok (CertificateFile calls certificate name analysed) (λ cert. Judged (HasVerdict analysed name cert)) one.1 text after one.3 in
    let cert : Cert = two.0 in
    let was = file_ok calls certificate states_limit (HasCertificate analysed name) one.1 cert two.1 two.2 in
    let verdict : HasVerdict analysed name cert (Ok text) = two.3.1 in
    let lawful = cert_lawful analysed.plant analysed.task name was.bytes cert was.fact in (
      cert.bound,
      verdict.1,
      is.bounds cert.bound (good_bounds analysed.plant analysed.task cert is.belongs lawful.states.once is.exists verdict.0),
    )

-- ---- bound

pub bound_says : {F : Type 0} (outside : F → FilesOutside) (reads : Calls F) (start : F) (subject : Subject) (states : List ℕ) (pivots : ℕ)
    (text : List ℕ) (after : F)
    → Bound (IsCall outside reads) subject states pivots start (Ok text) after
    → (bound : ℕ) × (text ≡ bound_text (name_of subject) bound) × BoundsSubject (AreBytesOf outside reads start) subject bound
bound_says outside reads start subject states pivots text after steps =
    let calls = IsCall outside reads in
    let name : List ℕ = name_of subject in
    let one = then_ok (AnalysedOf calls subject) (BoundOn calls states pivots name) start text after steps in
    let analysed : Analysed = one.0 in
    let plant : PlantData = analysed.plant in
    let task : ℕ = analysed.task in
    let is : IsAnalysed (AreBytesOf outside reads start) subject analysed = is_analysed outside reads start subject analysed one.1 one.2 in
    let two = then_ok (ClosedStates calls states plant) (λ listed. Judged (AnswersTask (bound_saying name) pivots analysed listed)) one.1 text after one.3 in
    let listed : List AbsState = two.0 in
    let closed : AreClosed plant listed = are_closed outside reads one.1 states plant listed two.1 two.2 in
    let says = optimum_said (bound_saying name) (rows_of plant listed task) (solved_rows plant listed task) pivots
    (bound_outcome plant listed task pivots) text two.3.1 in
    let bounds = said_bounds plant listed task name text (closed_for plant listed task is.belongs is.exists closed) says in
    (bounds.0, bounds.1, is.bounds bounds.0 bounds.2)

-- ---- certify

pub certify_says : {F : Type 0} (outside : F → FilesOutside) (reads : Calls F) (start : F) (subject : Subject) (states : List ℕ) (pivots : ℕ)
    (text : List ℕ) (after : F)
    → Certify (IsCall outside reads) subject states pivots start (Ok text) after
    → (bound : ℕ) × HasBound text bound × BoundsSubject (AreBytesOf outside reads start) subject bound
certify_says outside reads start subject states pivots text after steps =
    let calls = IsCall outside reads in
    let name : List ℕ = name_of subject in
    let one = then_ok (AnalysedOf calls subject) (CertifyOn calls states pivots name) start text after steps in
    let analysed : Analysed = one.0 in
    let plant : PlantData = analysed.plant in
    let task : ℕ = analysed.task in
    let is : IsAnalysed (AreBytesOf outside reads start) subject analysed = is_analysed outside reads start subject analysed one.1 one.2 in
    let two = then_ok (ClosedStates calls states plant) (λ listed. Judged (AnswersTask (cert_saying name task listed) pivots analysed listed)) one.1 text after
    one.3 in
    let listed : List AbsState = two.0 in
    let closed : AreClosed plant listed = are_closed outside reads one.1 states plant listed two.1 two.2 in
    let are : AreFor plant listed task = closed_for plant listed task is.belongs is.exists closed in
    let says = optimum_said (cert_saying name task listed) (rows_of plant listed task) (solved_rows plant listed task) pivots
    (bound_outcome plant listed task pivots) text two.3.1 in
    let bounds = said_certified plant listed task name text is.text closed are says in
    (bounds.0, bounds.1, is.bounds bounds.0 bounds.2)

-- ---- all

pub all_says : {F : Type 0} (outside : F → FilesOutside) (reads : Calls F) (start : F) (oil elf timing states text : List ℕ) (after : F)
    → All (IsCall outside reads) oil elf timing states start (Ok text) after
    → OfSystem (AreBytesOf outside reads start) oil elf timing (BoundsAll text)
all_says outside reads start oil elf timing states text after steps =
    let calls = IsCall outside reads in
    let one = then_ok (PlantOf calls oil elf timing) (AllOn calls states) start text after steps in
    let plant : PlantData = one.0 in
    let two = then_ok (ClosedStates calls states plant) (λ listed. Judged (AnswersAll plant listed)) one.1 text after one.3 in
    of_system (AreBytesOf outside reads start) oil elf timing (DeclarePlant plant) (BoundsAll text)
    (all_bounded plant two.0 text (are_closed outside reads one.1 states plant two.0 two.1 two.2) two.3.1)
    (plant_declared outside reads start oil elf timing plant one.1 one.2)
