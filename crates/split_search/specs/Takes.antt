-- The take columns of a task: the starts and moves by which the kernel takes a source, by their places among its columns.
use Rattle.std.specs.Prelude.{◌≡◌, ℕ, suc, cond, Bool, true, false, nat_eq, List, [], ◌∷◌, refl}
use Rattle.wcet_atomic_blocks.specs.Plants.{PlantData}
use Rattle.abstract_sched.specs.declared.states.AbsState.{AbsState}
use Rattle.scheduler_moves.specs.declared.moves.MoveLabel.{MoveLabel}
use Rattle.scheduler_moves.specs.declared.moves.MoveLabel.TheVariants as labels
use Rattle.row_build.specs.Columns

abbrev pub takes : MoveLabel → Bool
takes (labels.Take source) = true
takes (labels.Service node) = false

abbrev pub is_take : Columns.Column → Bool
is_take (Columns.Starts (Columns.In mode)) = false
is_take (Columns.Starts (Columns.By going)) = takes going.move.label
is_take (Columns.Moves going) = takes going.move.label
is_take (Columns.Goes along) = false
is_take (Columns.Begins block) = false
is_take (Columns.Stands node) = false

-- the places of the members that pass a test, of which the first one has this place
abbrev pub places_from : {A : Type 0} → (A → Bool) → ℕ → List A → List ℕ
places_from test place [] = []
places_from test place (x ∷ xs) = cond (test x) (place ∷ places_from test (suc place) xs) (places_from test (suc place) xs)

abbrev pub take_columns : PlantData → List AbsState → ℕ → List ℕ
take_columns plant states task = places_from is_take 0 (Columns.columns plant states task)

places_case : places_from (nat_eq 7) 0 (7 ∷ 5 ∷ 7 ∷ []) ≡ 0 ∷ 2 ∷ []
places_case = refl
