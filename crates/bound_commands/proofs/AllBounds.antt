-- The lines of `all`, and of other commands with a line a task: each bounds its task, and together they have a line for each task.
use Rattle.std.proofs.Common.{◌≡◌, ℕ, zero, suc, ◌+◌, ◌<◌, ◌≤◌, List, [], ◌∷◌, ◌++◌, length, Some, Ok, inl, inr, refl, sym, ◌∙◌, ap, subst, append_assoc, append-nil, arith}
use Rattle.std.specs.Prelude.{slice_get}
use Rattle.std.proofs.lemmas.Option.{same_Some}
use Rattle.oil_model.specs.declared.system.System.{System}
use Rattle.wcet_atomic_blocks.specs.Plants.{PlantData}
use Rattle.abstract_sched.specs.declared.states.AbsState.{AbsState}
use Rattle.row_build.specs.Rows.{rows_of}
use Rattle.activation_windows.specs.Bounds.{BoundsActivations, AreFor}
use Rattle.bound_solver.specs.Bounds.{solved_rows, bound_outcome}
use Rattle.reports.specs.Solved.{bound_text}
use Rattle.bound_commands.specs.All.{Answering, AnswersTaskAt, AnswersFrom, AnswersAll, task_name}
use Rattle.bound_commands.specs.Bounded.{BoundsAll, lines_of, lines_from}
use Rattle.bound_commands.specs.Lines.{LinesBound}
use Rattle.bound_commands.specs.Solving.{AnswersTask, telling, usual_pivots}
use Rattle.inputs.proofs.Analysing.{AreClosed}
use Rattle.bound_commands.proofs.Lasting.{closed_for, optimum_said}
use Rattle.inputs.proofs.Declared.{DeclarePlant, lasts_as}
use Rattle.bound_commands.proofs.Saying.{told_bounds}

-- ---- one line

-- the line tells a bound of the task
abbrev pub TellsBound : PlantData → (ℕ → ℕ → List ℕ) → ℕ → List ℕ → Type 0
TellsBound plant tell task line = (bound : ℕ) × (line ≡ tell task bound) × BoundsActivations plant task bound

pub line_bounds : (plant : PlantData) (states : List AbsState) (tell : ℕ → ℕ → List ℕ) (task : ℕ) (line : List ℕ) → AreFor plant states task
    → AnswersTask (telling (tell task)) usual_pivots (record { plant = plant; task = task }) states (Ok line) → TellsBound plant tell task line
line_bounds plant states tell task line are answers =
    told_bounds plant states task (tell task) line are
    (optimum_said (telling (tell task)) (rows_of plant states task) (solved_rows plant states task) usual_pivots
    (bound_outcome plant states task usual_pivots) line answers)

-- what `all` tells of a task
abbrev name_and_bound : PlantData → ℕ → ℕ → List ℕ
name_and_bound plant task bound = bound_text (task_name plant.system task) bound

pub lines_bound : LinesBound
lines_bound plant states task line belongs closed once exists answers =
    line_bounds plant states (name_and_bound plant) task line (record { belongs = belongs; closed = closed; once = once; exists = exists }) answers

-- ---- all lines

-- so many bounds of tasks, from this one on, whose lines stand behind a text and before the ending
pub record AreLines (plant : PlantData) (tell : ℕ → ℕ → List ℕ) (ending : List ℕ) (count task : ℕ) (text whole : List ℕ) : Type 0 where
  pub bounds : List ℕ
  pub many : length bounds ≡ count
  pub told : whole ≡ text ++ (lines_of tell task bounds ++ ending)
  pub lasts : (place bound : ℕ) → slice_get bounds place ≡ Some bound → BoundsActivations plant (task + place) bound

no_lines : (plant : PlantData) (tell : ℕ → ℕ → List ℕ) (ending : List ℕ) (task : ℕ) (text whole : List ℕ) → whole ≡ text ++ ending
    → AreLines plant tell ending 0 task text whole
no_lines plant tell ending task text whole is = record { bounds = []; many = refl; told = is; lasts = λ place bound none. absurd cc }

one_more : (plant : PlantData) (tell : ℕ → ℕ → List ℕ) (ending : List ℕ) (count task bound : ℕ) (text line whole : List ℕ) → line ≡ tell task bound
    → BoundsActivations plant task bound → AreLines plant tell ending count (suc task) (text ++ line) whole
    → AreLines plant tell ending (suc count) task text whole
one_more plant tell ending count task bound text line whole is lasts rest = record {
  bounds = bound ∷ rest.bounds;
  many = ap suc rest.many;
  told = rest.told ∙ append_assoc text line (lines_of tell (suc task) rest.bounds ++ ending)
      ∙ ap (λ (l : List ℕ). text ++ (l ++ (lines_of tell (suc task) rest.bounds ++ ending))) is
      ∙ ap (λ (l : List ℕ). text ++ l) (sym (append_assoc (tell task bound) (lines_of tell (suc task) rest.bounds) ending));
  lasts = at;
}
  where
    at : (place other : ℕ) → slice_get (bound ∷ rest.bounds) place ≡ Some other → BoundsActivations plant (task + place) other
    at zero other there =
        let here : task ≡ task + 0 = omega arith in
        subst (λ (n : ℕ). BoundsActivations plant n other) here
        (subst (λ (n : ℕ). BoundsActivations plant task n) (same_Some bound other there) lasts)
    at (suc place) other there =
        let later : suc task + place ≡ task + suc place = omega arith in
        subst (λ (n : ℕ). BoundsActivations plant n other) later (rest.lasts place other there)

-- where each line that is answered tells a bound of its task
pub are_lines : (plant : PlantData) (Answers : Answering) (tell : ℕ → ℕ → List ℕ) (ending : List ℕ) (total count task : ℕ) (text whole : List ℕ)
    → ((place : ℕ) (line : List ℕ) → place < total → Answers place (Ok line) → TellsBound plant tell place line)
    → task + count ≤ total → AnswersFrom Answers ending count task text (Ok whole) → AreLines plant tell ending count task text whole
are_lines plant Answers tell ending total zero task text whole tells within answers = no_lines plant tell ending task text whole (cc answers)
are_lines plant Answers tell ending total (suc count) task text whole tells within (inl (line, answers, rest)) =
    let line_is = tells task line (omega arith) answers in
    one_more plant tell ending count task line_is.0 text line whole line_is.1 line_is.2
    (are_lines plant Answers tell ending total count (suc task) (text ++ line) whole tells (omega arith) rest)
are_lines plant Answers tell ending total (suc count) task text whole tells within (inr refused) = absurd (cc (refused.2))

-- ---- the answer

pub all_bounded : (plant : PlantData) (states : List AbsState) (text : List ℕ) → AreClosed plant states → AnswersAll plant states (Ok text)
    → (oil elf timing : List ℕ) → DeclarePlant plant oil elf timing → BoundsAll text oil elf timing
all_bounded plant states text closed answers oil elf timing declares =
    let of = declares.plant_is in
    let declared = declares.declared in
    let total : ℕ = length plant.system.tasks in
    let lines = are_lines plant (AnswersTaskAt plant states) (name_and_bound plant) [] total total 0 [] text
    (λ place line exists told. line_bounds plant states (name_and_bound plant) place line (closed_for plant states place of.belong exists closed) told)
    (omega arith) answers in
    record {
      declared = declared;
      bounds = lines.bounds;
      for_each = lines.many ∙ ap (λ (s : System). length s.tasks) of.system_is;
      told = lines.told ∙ append-nil (lines_from plant.system 0 lines.bounds) ∙ ap (λ (s : System). lines_from s 0 lines.bounds) of.system_is;
      lasts = λ task bound there. lasts_as declared.image declared.system declared.times plant task bound of
          (let same : 0 + task ≡ task = omega arith in subst (λ (n : ℕ). BoundsActivations plant n bound) same (lines.lasts task bound there));
    }
