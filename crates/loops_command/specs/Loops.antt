-- `loops OIL ELF TIMING TASK STATES`: the files are read and judged, the list of states last; for each declared loop its bound
-- is found in the code, or none, and the rows of the task over the found bounds are solved.
use Rattle.std.specs.Prelude.{◌≡◌, ℕ, List, [], ◌∷◌, ◌++◌, codes, Option, Some, None, Result, Ok, Err}
use Rattle.std.specs.Fmt.{decimal}
use Rattle.timing_file.specs.declared.timing.Loop.{Loop}
use Rattle.wcet_atomic_blocks.specs.Plants.{PlantData}
use Rattle.abstract_sched.specs.declared.states.AbsState.{AbsState}
use Rattle.counted_loops.specs.Bounds.{found_plant}
use Rattle.counted_loops.specs.Counted.{AreFound}
use Rattle.command_steps.specs.declared.halt.Refusal.{Refusal}
use Rattle.command_steps.specs.Refusals.{newline}
use Rattle.command_steps.specs.Steps.{Calls, Step, Judged, Then}
use Rattle.reports.specs.Code.{address_text}
use Rattle.inputs.specs.declared.subjects.Analysed.{Analysed}
use Rattle.inputs.specs.declared.subjects.Subject.TheVariants.{Named}
use Rattle.inputs.specs.States.{ClosedStates}
use Rattle.inputs.specs.Subjects.{AnalysedOf}
use Rattle.loops_command.specs.declared.found_loops.FoundLoops.{FoundLoops}
use Rattle.bound_commands.specs.Solving.{AnswersTask, bound_saying, usual_pivots}

-- ---- Lines

-- a found bound, or `-` where none was found
abbrev pub bound_word : Option ℕ → List ℕ
bound_word None = codes "-"
bound_word (Some bound) = decimal bound

-- its addresses as eight hexadecimal digits
abbrev pub span_text : Loop → List ℕ
span_text l = address_text (Some l.from) ++ (codes " " ++ address_text (Some l.to))

abbrev pub bounds_text : ℕ → Option ℕ → List ℕ
bounds_text declared found = codes " declared " ++ (decimal declared ++ (codes " found " ++ (bound_word found ++ newline)))

-- `FROM TO declared D found F`
abbrev pub loop_line : Loop → Option ℕ → List ℕ
loop_line l found = span_text l ++ bounds_text l.bound found

-- a line for each loop
abbrev pub loop_lines : List Loop → List (Option ℕ) → List ℕ
loop_lines (l ∷ loops) (bound ∷ found) = loop_line l bound ++ loop_lines loops found
loop_lines loops found = []

-- ---- What is answered

-- the task of the plant with found bounds
abbrev pub found_analysed : Analysed → List (Option ℕ) → Analysed
found_analysed analysed found = record { plant = found_plant analysed.plant found; task = analysed.task }

-- The bounds that the code of the declared loops gives were found: what is analysed with them, and the lines that tell them.
pub record AreFoundLoops (analysed : Analysed) (loops : FoundLoops) : Type 0 where
  pub found : List (Option ℕ)
  pub are : AreFound analysed.plant.image analysed.plant.system analysed.plant.flow analysed.plant.timing.loops found
  pub analysed_is : loops.analysed ≡ found_analysed analysed found
  pub lines_are : loops.lines ≡ loop_lines analysed.plant.timing.loops found

-- this never refuses
abbrev pub HasFound : Analysed → Result FoundLoops Refusal → Type 0
HasFound analysed (Ok loops) = AreFoundLoops analysed loops
HasFound analysed (Err refusal) = ⊥

-- The lines of the loops, and that of the task over their found bounds; or why the task has no bound.
abbrev pub AnswersLoops : List ℕ → FoundLoops → List AbsState → Result (List ℕ) Refusal → Type 0
AnswersLoops name loops states (Ok text) =
    (line : List ℕ) × AnswersTask (bound_saying name) usual_pivots loops.analysed states (Ok line) × (text ≡ loops.lines ++ line)
AnswersLoops name loops states (Err refusal) = AnswersTask (bound_saying name) usual_pivots loops.analysed states (Err refusal)

-- ---- The command

abbrev pub FoundOn : {F : Type 0} → Calls F → List ℕ → List ℕ → FoundLoops → Step F (List ℕ)
FoundOn calls states name loops =
    Then (ClosedStates calls states loops.analysed.plant) (λ listed. Judged (AnswersLoops name loops listed))

abbrev pub LoopsOn : {F : Type 0} → Calls F → List ℕ → List ℕ → Analysed → Step F (List ℕ)
LoopsOn calls states name analysed = Then (Judged (HasFound analysed)) (FoundOn calls states name)

abbrev pub Loops : {F : Type 0} → Calls F → List ℕ → List ℕ → List ℕ → List ℕ → List ℕ → Step F (List ℕ)
Loops calls oil elf timing task states = Then (AnalysedOf calls (Named oil elf timing task)) (LoopsOn calls states task)
