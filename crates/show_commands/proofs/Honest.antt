-- What the steps of each command leave of the outside: it reads files of its names only.
use Rattle.std.proofs.Common.{◌≡◌, ℕ, List, [], ◌∷◌, Ok}
use Rattle.wcet_io.specs.Files.{FilesOutside}
use Rattle.oil_grammar.specs.declared.tree.Tree.{Tree}
use Rattle.wcet_atomic_blocks.specs.Plants.{PlantData}
use Rattle.replay.specs.declared.schedule.Schedule.{Schedule}
use Rattle.command_steps.specs.Steps.{Calls, IsCall, Judged}
use Rattle.command_steps.proofs.Honest.{IsHonest, judged, joined}
use Rattle.inputs.specs.Inputs.{OilTree}
use Rattle.inputs.specs.Plants.{PlantOf}
use Rattle.inputs.specs.Schedules.{ScheduleFile}
use Rattle.inputs.proofs.Honest.{first, fourth, tree_honest, plant_honest, schedule_honest}
use Rattle.show_commands.specs.Replay.{HasPlayed, ReplayOn, Replay}
use Rattle.show_commands.specs.ShowCode.{code_text, ShowCode}
use Rattle.show_commands.specs.ShowOil.{HasLayout, ShowOil}

pub show_oil_honest : {F : Type 0} (outside : F → FilesOutside) (reads : Calls F) (oil : List ℕ)
    → IsHonest outside (oil ∷ []) (ShowOil (IsCall outside reads) oil)
show_oil_honest outside reads oil =
    let names : List (List ℕ) = oil ∷ [] in
    joined outside names (OilTree (IsCall outside reads) oil) (λ tree. Judged (HasLayout tree))
    (tree_honest outside reads names oil (first oil [])) (λ (tree : Tree). judged outside names (HasLayout tree))

pub show_code_honest : {F : Type 0} (outside : F → FilesOutside) (reads : Calls F) (oil elf timing : List ℕ)
    → IsHonest outside (oil ∷ elf ∷ timing ∷ []) (ShowCode (IsCall outside reads) oil elf timing)
show_code_honest outside reads oil elf timing =
    let names : List (List ℕ) = oil ∷ elf ∷ timing ∷ [] in
    let calls = IsCall outside reads in
    joined outside names (PlantOf calls oil elf timing) (λ plant. Judged (λ given. given ≡ Ok (code_text plant)))
    (plant_honest outside reads oil elf timing []) (λ (plant : PlantData). judged outside names (λ given. given ≡ Ok (code_text plant)))

pub replay_honest : {F : Type 0} (outside : F → FilesOutside) (reads : Calls F) (oil elf timing schedule : List ℕ)
    → IsHonest outside (oil ∷ elf ∷ timing ∷ schedule ∷ []) (Replay (IsCall outside reads) oil elf timing schedule)
replay_honest outside reads oil elf timing schedule =
    let names : List (List ℕ) = oil ∷ elf ∷ timing ∷ schedule ∷ [] in
    let calls = IsCall outside reads in
    joined outside names (PlantOf calls oil elf timing) (ReplayOn calls schedule)
    (plant_honest outside reads oil elf timing (schedule ∷ []))
    (λ (plant : PlantData). joined outside names (ScheduleFile calls schedule plant) (λ listed. Judged (HasPlayed plant listed))
    (schedule_honest outside reads names schedule plant (fourth oil elf timing schedule []))
    (λ (listed : Schedule). judged outside names (HasPlayed plant listed)))
