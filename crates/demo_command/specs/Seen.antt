-- The greatest response that a run shows of a task.
use Rattle.std.specs.Prelude.{◌≡◌, ℕ, max, Bool, true, false, ◌&&◌, ◌==◌, List, [], ◌∷◌, map, filter, refl}
use Rattle.replay.specs.declared.response.Response.{Response}

-- an activation of the task that ended
abbrev pub is_ended_of : ℕ → Response → Bool
is_ended_of task response = response.ended && (response.task == task)

-- the greatest of some numbers, 0 where there is none
abbrev pub greatest : List ℕ → ℕ
greatest [] = 0
greatest (n ∷ others) = max n (greatest others)

-- the greatest cycles of the task's activations that ended, 0 where none did
abbrev pub seen_of : ℕ → List Response → ℕ
seen_of task responses = greatest (map (λ (r : Response). r.cycles) (filter (is_ended_of task) responses))

-- ---- worked case: what hasn't ended isn't seen, nor what another task took

abbrev lasted : ℕ → ℕ → Bool → Response
lasted task cycles ended = record { task = task; start = 0; cycles = cycles; ended = ended }

seen_case : seen_of 1 (lasted 1 56 true ∷ lasted 0 90 true ∷ lasted 1 40 true ∷ lasted 1 99 false ∷ []) ≡ 56
seen_case = refl
