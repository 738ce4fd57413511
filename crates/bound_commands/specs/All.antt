-- `all OIL ELF TIMING STATES`: the bound of each task, in the order of the OIL file, up to the first task that has none.
use Rattle.std.specs.Prelude.{◌≡◌, ◌⊎◌, ℕ, zero, suc, List, [], ◌++◌, length, codes, unwrap_or, option_map, slice_get, Result, Ok, Err}
use Rattle.oil_model.specs.declared.system.System.{System}
use Rattle.wcet_atomic_blocks.specs.Plants.{PlantData}
use Rattle.abstract_sched.specs.declared.states.AbsState.{AbsState}
use Rattle.command_steps.specs.declared.halt.Refusal.{Refusal}
use Rattle.command_steps.specs.Refusals.{refusal}
use Rattle.command_steps.specs.Steps.{Calls, Step, Judged, Then}
use Rattle.inputs.specs.Plants.{PlantOf}
use Rattle.bound_commands.specs.Solving.{AnswersTask, bound_saying, usual_pivots}
use Rattle.inputs.specs.States.{ClosedStates}

-- the name of a task
abbrev pub task_name : System → ℕ → List ℕ
task_name system task = unwrap_or (option_map (λ t. t.name) (slice_get system.tasks task)) (codes "")

abbrev pub AnswersTaskAt : PlantData → List AbsState → ℕ → Result (List ℕ) Refusal → Type 0
AnswersTaskAt plant states task given =
    AnswersTask (bound_saying (task_name plant.system task)) usual_pivots (record { plant = plant; task = task }) states given

-- what is answered of the task of each number
abbrev pub Answering : Type 1
Answering = ℕ → Result (List ℕ) Refusal → Type 0

-- The lines of so many tasks from this one on, behind the text so far, and then the ending; or up to the refusal of the first task that
-- has no bound.
abbrev pub AnswersFrom : Answering → List ℕ → ℕ → ℕ → List ℕ → Result (List ℕ) Refusal → Type 0
AnswersFrom Answers ending zero task text given = given ≡ Ok (text ++ ending)
AnswersFrom Answers ending (suc count) task text given =
    ((line : List ℕ) × Answers task (Ok line) × AnswersFrom Answers ending count (suc task) (text ++ line) given)
    ⊎ ((refused : Refusal) × Answers task (Err refused) × (given ≡ Err (refusal refused.reason (text ++ refused.text))))

abbrev pub AnswersAll : PlantData → List AbsState → Result (List ℕ) Refusal → Type 0
AnswersAll plant states given = AnswersFrom (AnswersTaskAt plant states) [] (length plant.system.tasks) 0 [] given

abbrev pub AllOn : {F : Type 0} → Calls F → List ℕ → PlantData → Step F (List ℕ)
AllOn calls states plant = Then (ClosedStates calls states plant) (λ listed. Judged (AnswersAll plant listed))

abbrev pub All : {F : Type 0} → Calls F → List ℕ → List ℕ → List ℕ → List ℕ → Step F (List ℕ)
All calls oil elf timing states = Then (PlantOf calls oil elf timing) (AllOn calls states)
