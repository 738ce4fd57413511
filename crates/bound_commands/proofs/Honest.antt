-- What the steps of each command leave of the outside: it reads files of its names only.
use Rattle.std.proofs.Common.{ℕ, List, [], ◌∷◌, ◌++◌}
use Rattle.wcet_io.specs.Files.{FilesOutside}
use Rattle.wcet_atomic_blocks.specs.Plants.{PlantData}
use Rattle.abstract_sched.specs.declared.states.AbsState.{AbsState}
use Rattle.certificate.specs.declared.cert.Cert.{Cert}
use Rattle.command_steps.specs.Steps.{Calls, IsCall, Judged}
use Rattle.command_steps.proofs.Honest.{IsHonest, judged, joined}
use Rattle.inputs.specs.declared.subjects.Analysed.{Analysed}
use Rattle.inputs.specs.declared.subjects.Subject.{Subject}
use Rattle.inputs.specs.Plants.{PlantOf}
use Rattle.inputs.specs.States.{CertificateFile, ClosedStates}
use Rattle.inputs.specs.Subjects.{AnalysedOf, name_of, subject_files}
use Rattle.inputs.proofs.Honest.{behind, fourth, plant_honest, analysed_honest, closed_honest, certificate_honest}
use Rattle.bound_commands.specs.All.{AnswersAll, AllOn, All}
use Rattle.bound_commands.specs.Check.{HasVerdict, CheckOn, Check}
use Rattle.bound_commands.specs.Solving.{AnswersTask, bound_saying, cert_saying, BoundOn, Bound, CertifyOn, Certify}

pub check_honest : {F : Type 0} (outside : F → FilesOutside) (reads : Calls F) (subject : Subject) (certificate : List ℕ)
    → IsHonest outside (subject_files subject ++ certificate ∷ []) (Check (IsCall outside reads) subject certificate)
check_honest outside reads subject certificate =
    let names : List (List ℕ) = subject_files subject ++ certificate ∷ [] in
    let calls = IsCall outside reads in
    let name : List ℕ = name_of subject in
    joined outside names (AnalysedOf calls subject) (CheckOn calls certificate name)
    (analysed_honest outside reads subject (certificate ∷ []))
    (λ (analysed : Analysed). joined outside names (CertificateFile calls certificate name analysed) (λ cert. Judged (HasVerdict analysed name cert))
    (certificate_honest outside reads names certificate name analysed (behind subject certificate []))
    (λ (cert : Cert). judged outside names (HasVerdict analysed name cert)))

pub bound_honest : {F : Type 0} (outside : F → FilesOutside) (reads : Calls F) (subject : Subject) (states : List ℕ) (pivots : ℕ)
    → IsHonest outside (subject_files subject ++ states ∷ []) (Bound (IsCall outside reads) subject states pivots)
bound_honest outside reads subject states pivots =
    let names : List (List ℕ) = subject_files subject ++ states ∷ [] in
    let calls = IsCall outside reads in
    let name : List ℕ = name_of subject in
    joined outside names (AnalysedOf calls subject) (BoundOn calls states pivots name)
    (analysed_honest outside reads subject (states ∷ []))
    (λ (analysed : Analysed). joined outside names (ClosedStates calls states analysed.plant)
    (λ listed. Judged (AnswersTask (bound_saying name) pivots analysed listed))
    (closed_honest outside reads names states analysed.plant (behind subject states []))
    (λ (listed : List AbsState). judged outside names (AnswersTask (bound_saying name) pivots analysed listed)))

pub certify_honest : {F : Type 0} (outside : F → FilesOutside) (reads : Calls F) (subject : Subject) (states : List ℕ) (pivots : ℕ)
    → IsHonest outside (subject_files subject ++ states ∷ []) (Certify (IsCall outside reads) subject states pivots)
certify_honest outside reads subject states pivots =
    let names : List (List ℕ) = subject_files subject ++ states ∷ [] in
    let calls = IsCall outside reads in
    let name : List ℕ = name_of subject in
    joined outside names (AnalysedOf calls subject) (CertifyOn calls states pivots name)
    (analysed_honest outside reads subject (states ∷ []))
    (λ (analysed : Analysed). joined outside names (ClosedStates calls states analysed.plant)
    (λ listed. Judged (AnswersTask (cert_saying name analysed.task listed) pivots analysed listed))
    (closed_honest outside reads names states analysed.plant (behind subject states []))
    (λ (listed : List AbsState). judged outside names (AnswersTask (cert_saying name analysed.task listed) pivots analysed listed)))

pub all_honest : {F : Type 0} (outside : F → FilesOutside) (reads : Calls F) (oil elf timing states : List ℕ)
    → IsHonest outside (oil ∷ elf ∷ timing ∷ states ∷ []) (All (IsCall outside reads) oil elf timing states)
all_honest outside reads oil elf timing states =
    let names : List (List ℕ) = oil ∷ elf ∷ timing ∷ states ∷ [] in
    let calls = IsCall outside reads in
    joined outside names (PlantOf calls oil elf timing) (AllOn calls states)
    (plant_honest outside reads oil elf timing (states ∷ []))
    (λ (plant : PlantData). joined outside names (ClosedStates calls states plant) (λ listed. Judged (AnswersAll plant listed))
    (closed_honest outside reads names states plant (fourth oil elf timing states []))
    (λ (listed : List AbsState). judged outside names (AnswersAll plant listed)))
