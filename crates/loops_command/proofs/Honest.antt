-- What the steps of `loops` leave of the outside: it reads files of its names only.
use Rattle.std.proofs.Common.{ℕ, List, [], ◌∷◌}
use Rattle.wcet_io.specs.Files.{FilesOutside}
use Rattle.abstract_sched.specs.declared.states.AbsState.{AbsState}
use Rattle.command_steps.specs.Steps.{Calls, IsCall, Judged}
use Rattle.command_steps.proofs.Honest.{IsHonest, judged, joined}
use Rattle.inputs.specs.declared.subjects.Analysed.{Analysed}
use Rattle.inputs.specs.declared.subjects.Subject.{Subject}
use Rattle.inputs.specs.declared.subjects.Subject.TheVariants.{Named}
use Rattle.inputs.specs.States.{ClosedStates}
use Rattle.inputs.specs.Subjects.{AnalysedOf}
use Rattle.inputs.proofs.Honest.{behind, analysed_honest, closed_honest}
use Rattle.loops_command.specs.declared.found_loops.FoundLoops.{FoundLoops}
use Rattle.loops_command.specs.Loops.{HasFound, AnswersLoops, FoundOn, LoopsOn, Loops}

pub loops_honest : {F : Type 0} (outside : F → FilesOutside) (reads : Calls F) (oil elf timing task states : List ℕ)
    → IsHonest outside (oil ∷ elf ∷ timing ∷ states ∷ []) (Loops (IsCall outside reads) oil elf timing task states)
loops_honest outside reads oil elf timing task states =
    let names : List (List ℕ) = oil ∷ elf ∷ timing ∷ states ∷ [] in
    let subject : Subject = Named oil elf timing task in
    let calls = IsCall outside reads in
    joined outside names (AnalysedOf calls subject) (LoopsOn calls states task)
    (analysed_honest outside reads subject (states ∷ []))
    (λ (analysed : Analysed). joined outside names (Judged (HasFound analysed)) (FoundOn calls states task)
    (judged outside names (HasFound analysed))
    (λ (loops : FoundLoops). joined outside names (ClosedStates calls states loops.analysed.plant) (λ listed. Judged (AnswersLoops task loops listed))
    (closed_honest outside reads names states loops.analysed.plant (behind subject states []))
    (λ (listed : List AbsState). judged outside names (AnswersLoops task loops listed))))
