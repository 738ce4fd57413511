-- What the answers of `all` and `certify` mean.
use Rattle.std.specs.Prelude.{◌≡◌, ℕ, suc, ◌^◌, List, [], ◌∷◌, ◌++◌, length, codes, slice_get, option_and_then, Some}
use Rattle.serde_json.specs.Data.{Data}
use Rattle.json_fields.specs.Files.{HasValue}
use Rattle.json_fields.specs.Numbers.{digits_below}
use Rattle.json_fields.specs.Objects.{text_at}
use Rattle.oil_model.specs.declared.system.System.{System}
use Rattle.reports.specs.Solved.{bound_text}
use Rattle.inputs.specs.Meaning.{LastsAtMost, AreDeclared}
use Rattle.bound_commands.specs.All.{task_name}

-- what is told of each task and its bound, for these bounds of the tasks from this one on
abbrev pub lines_of : (ℕ → ℕ → List ℕ) → ℕ → List ℕ → List ℕ
lines_of tell task [] = []
lines_of tell task (bound ∷ bounds) = tell task bound ++ lines_of tell (suc task) bounds

-- `TASK N` for them
abbrev pub lines_from : System → ℕ → List ℕ → List ℕ
lines_from system = lines_of (λ task bound. bound_text (task_name system task) bound)

-- The text has a line for each task of the system, and no activation of it lasts longer.
pub record BoundsAll (text oil elf timing : List ℕ) : Type 0 where
  pub declared : AreDeclared oil elf timing
  pub bounds : List ℕ
  pub for_each : length bounds ≡ length declared.system.tasks
  pub told : text ≡ lines_from declared.system 0 bounds
  pub lasts : (task bound : ℕ) → slice_get bounds task ≡ Some bound
      → LastsAtMost declared.image declared.system declared.times task bound

-- The text is a JSON value whose member `bound` is the text of that number.
pub record HasBound (text : List ℕ) (bound : ℕ) : Type 0 where
  pub value : Data
  pub is_value : HasValue text value
  pub member : option_and_then (digits_below (2 ^ 120)) (text_at (codes "bound") value) ≡ Some bound
