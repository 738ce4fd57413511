-- What the steps of each command leave of the outside: it reads files of its names only.
use Rattle.std.proofs.Common.{ℕ, List, [], ◌∷◌}
use Rattle.wcet_io.specs.Files.{FilesOutside}
use Rattle.abstract_sched.specs.declared.states.AbsState.{AbsState}
use Rattle.command_steps.specs.Steps.{Calls, IsCall, Judged}
use Rattle.command_steps.proofs.Honest.{IsHonest, file, judged, joined}
use Rattle.inputs.specs.declared.subjects.Analysed.{Analysed}
use Rattle.inputs.specs.declared.subjects.Subject.TheVariants.{Named}
use Rattle.inputs.specs.Inputs.{states_limit}
use Rattle.inputs.specs.States.{ClosedStates}
use Rattle.inputs.specs.Subjects.{AnalysedOf}
use Rattle.inputs.proofs.Honest.{fourth, analysed_honest, closed_honest}
use Rattle.split_cert.specs.declared.cert.SplitCert.{SplitCert}
use Rattle.split_commands.specs.Check.{HasVerdict, CheckOn, CheckSplit}
use Rattle.split_commands.specs.Find.{HasFound, FindOn, FindSplit}
use Rattle.split_commands.specs.SplitFiles.{HasSplit, SplitFile}

pub split_check_honest : {F : Type 0} (outside : F → FilesOutside) (reads : Calls F) (oil elf timing task split : List ℕ)
    → IsHonest outside (oil ∷ elf ∷ timing ∷ split ∷ []) (CheckSplit (IsCall outside reads) oil elf timing task split)
split_check_honest outside reads oil elf timing task split =
    let names : List (List ℕ) = oil ∷ elf ∷ timing ∷ split ∷ [] in
    let calls = IsCall outside reads in
    joined outside names (AnalysedOf calls (Named oil elf timing task)) (CheckOn calls split task)
    (analysed_honest outside reads (Named oil elf timing task) (split ∷ []))
    (λ (analysed : Analysed). joined outside names (SplitFile calls split task analysed) (λ cert. Judged (HasVerdict analysed task cert))
    (file outside reads names split states_limit (HasSplit analysed task) (fourth oil elf timing split []))
    (λ (cert : SplitCert). judged outside names (HasVerdict analysed task cert)))

pub split_find_honest : {F : Type 0} (outside : F → FilesOutside) (reads : Calls F) (oil elf timing task states : List ℕ) (bound cuts : ℕ)
    → IsHonest outside (oil ∷ elf ∷ timing ∷ states ∷ []) (FindSplit (IsCall outside reads) oil elf timing task states bound cuts)
split_find_honest outside reads oil elf timing task states bound cuts =
    let names : List (List ℕ) = oil ∷ elf ∷ timing ∷ states ∷ [] in
    let calls = IsCall outside reads in
    joined outside names (AnalysedOf calls (Named oil elf timing task)) (FindOn calls states bound cuts task)
    (analysed_honest outside reads (Named oil elf timing task) (states ∷ []))
    (λ (analysed : Analysed). joined outside names (ClosedStates calls states analysed.plant)
    (λ listed. Judged (HasFound task bound cuts analysed listed))
    (closed_honest outside reads names states analysed.plant (fourth oil elf timing states []))
    (λ (listed : List AbsState). judged outside names (HasFound task bound cuts analysed listed)))
