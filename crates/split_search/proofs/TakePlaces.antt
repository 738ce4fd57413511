-- The take columns are the places of flags.
use Rattle.std.proofs.Common.{◌≡◌, ℕ, suc, ◌+◌, ◌<◌, Bool, true, false, cond, List, [], ◌∷◌, ◌++◌, length, map, get_or, take, pos, All, refl, sym, ap, subst, ◌∙◌, zero-add, arith}
use Rattle.std.specs.Prelude.{filter}
use Rattle.std.specs.List.{range_with_len}
use Rattle.std.proofs.lemmas.List.{append-nil, length-map, length-take-le, map-append, take_more}
use Rattle.std.proofs.lemmas.List.Elements.{All-cons, All-nil}
use Rattle.osek_kernel.specs.declared.context.Context.TheVariants as contexts
use Rattle.wcet_atomic_blocks.specs.Plants.{PlantData}
use Rattle.abstract_sched.specs.declared.states.AbsState.{AbsState}
use Rattle.scheduler_moves.specs.Moves.{initial}
use Rattle.row_build.specs.Columns
use Rattle.row_build.specs.Families
use Rattle.row_build.specs.Rows.{rows_of}
use Rattle.row_build.proofs.Growing.{numbers_more}
use Rattle.split_search.specs.declared.moves.TaskMove.{TaskMove}
use Rattle.split_search.specs.Takes.{is_take, places_from, take_columns, takes}
use Rattle.split_search.specs.Working.Flags.{count_flags, flags_of, mode_flags, start_flags}
use Rattle.split_search.specs.Working.Moves.{task_move}

-- ---- Loops

pub modes_more : (plant : PlantData) (task n : ℕ) → mode_flags plant task (n + 1) ≡ mode_flags plant task n ++ cond (Columns.is_active_in (initial plant n) (contexts.Task task)) (false ∷ []) []
modes_more plant task n =
    let test : ℕ → Bool = λ mode. Columns.is_active_in (initial plant mode) (contexts.Task task) in
    numbers_more (λ (mode : ℕ). false) test n ∙ ap (λ (flags : List Bool). mode_flags plant task n ++ flags) (by (test n))
  where
    by : (t : Bool) → map (λ (mode : ℕ). false) (cond t (n ∷ []) []) ≡ cond t (false ∷ []) []
    by true = refl
    by false = refl

-- ---- Places

places-append : {A : Type 0} (test : A → Bool) (place : ℕ) (xs ys : List A) → places_from test place (xs ++ ys) ≡ places_from test place xs ++ places_from test (place + length xs) ys
places-append test place [] ys = let same : place + 0 ≡ place = omega arith in ap (λ (n : ℕ). places_from test n ys) (sym same)
places-append test place (x ∷ xs) ys =
    let next : suc place + length xs ≡ place + suc (length xs) = omega arith in
    by (test x) (places-append test (suc place) xs ys ∙ ap (λ (n : ℕ). places_from test (suc place) xs ++ places_from test n ys) next)
  where
    by : (t : Bool) → places_from test (suc place) (xs ++ ys) ≡ places_from test (suc place) xs ++ places_from test (place + suc (length xs)) ys
        → cond t (place ∷ places_from test (suc place) (xs ++ ys)) (places_from test (suc place) (xs ++ ys)) ≡ cond t (place ∷ places_from test (suc place) xs) (places_from test (suc place) xs) ++ places_from test (place + suc (length xs)) ys
    by true e = ap (λ (places : List ℕ). place ∷ places) e
    by false e = e

places-map : {A : Type 0} (test : A → Bool) (place : ℕ) (xs : List A) → places_from test place xs ≡ places_from (λ (flag : Bool). flag) place (map test xs)
places-map test place [] = refl
places-map test place (x ∷ xs) = rw (places-map test (suc place) xs) refl

pub places_more : (flags : List Bool) (i : ℕ) → i < length flags → places_from (λ (flag : Bool). flag) 0 (take (i + 1) flags) ≡ places_from (λ (flag : Bool). flag) 0 (take i flags) ++ cond (get_or flags i false) (i ∷ []) []
places_more flags i h =
    let place : 0 + length (take i flags) ≡ i = zero-add (length (take i flags)) ∙ length-take-le i flags (omega arith) in
    ap (places_from (λ (flag : Bool). flag) 0) (take_more flags i false h)
    ∙ places-append (λ (flag : Bool). flag) 0 (take i flags) (get_or flags i false ∷ [])
    ∙ ap (λ (n : ℕ). places_from (λ (flag : Bool). flag) 0 (take i flags) ++ places_from (λ (flag : Bool). flag) n (get_or flags i false ∷ [])) place

-- ---- Columns

mode_starts : (modes : List ℕ) → map is_take (map Columns.Starts (map Columns.In modes)) ≡ map (λ (mode : ℕ). false) modes
mode_starts [] = refl
mode_starts (mode ∷ modes) = ap (λ (flags : List Bool). false ∷ flags) (mode_starts modes)

move_starts : (goings : List Columns.Going) → map is_take (map Columns.Starts (map Columns.By goings)) ≡ map (λ (going : Columns.Going). takes going.move.label) goings
move_starts [] = refl
move_starts (going ∷ goings) = ap (λ (flags : List Bool). takes going.move.label ∷ flags) (move_starts goings)

counting : (goings : List Columns.Going) → map is_take (map Columns.Moves goings) ≡ map (λ (going : Columns.Going). takes going.move.label) goings
counting [] = refl
counting (going ∷ goings) = ap (λ (flags : List Bool). takes going.move.label ∷ flags) (counting goings)

none_goes : (place : ℕ) (alongs : List Columns.Along) → places_from is_take place (map Columns.Goes alongs) ≡ []
none_goes place [] = refl
none_goes place (along ∷ alongs) = none_goes (suc place) alongs

none_begins : (place : ℕ) (blocks : List ℕ) → places_from is_take place (map Columns.Begins blocks) ≡ []
none_begins place [] = refl
none_begins place (block ∷ blocks) = none_begins (suc place) blocks

none_stands : (place : ℕ) (nodes : List ℕ) → places_from is_take place (map Columns.Stands nodes) ≡ []
none_stands place [] = refl
none_stands place (node ∷ nodes) = none_stands (suc place) nodes

kept : (plant : PlantData) (task : ℕ) (test : Columns.Going → Bool) (by : TaskMove → Bool) (goings : List Columns.Going) → ((going : Columns.Going) → by (task_move plant task going) ≡ test going)
    → map (λ (going : Columns.Going). takes going.move.label) (filter test goings) ≡ map (λ (move : TaskMove). move.takes) (filter by (map (task_move plant task) goings))
kept plant task test by [] same = refl
kept plant task test by (going ∷ goings) same =
    let rest = kept plant task test by goings same in
    rw (same going) (split (test going) rest)
  where
    split : (t : Bool) → map (λ (going : Columns.Going). takes going.move.label) (filter test goings) ≡ map (λ (move : TaskMove). move.takes) (filter by (map (task_move plant task) goings))
        → map (λ (going : Columns.Going). takes going.move.label) (cond t (going ∷ filter test goings) (filter test goings)) ≡ map (λ (move : TaskMove). move.takes) (cond t (task_move plant task going ∷ filter by (map (task_move plant task) goings)) (filter by (map (task_move plant task) goings)))
    split true e = ap (λ (flags : List Bool). takes going.move.label ∷ flags) e
    split false e = e

-- in three parts, of which the last one has no takes
three_parts : {A : Type 0} (test : A → Bool) (xs ys zs : List A) → ((place : ℕ) → places_from test place zs ≡ []) → places_from test 0 (xs ++ (ys ++ zs)) ≡ places_from (λ (flag : Bool). flag) 0 (map test xs ++ map test ys)
three_parts test xs ys zs none =
    places-append test 0 xs (ys ++ zs)
    ∙ ap (λ (places : List ℕ). places_from test 0 xs ++ places) (places-append test (0 + length xs) ys zs ∙ ap (λ (places : List ℕ). places_from test (0 + length xs) ys ++ places) (none (0 + length xs + length ys)) ∙ append-nil (places_from test (0 + length xs) ys))
    ∙ sym (places-append test 0 xs ys)
    ∙ places-map test 0 (xs ++ ys) ∙ ap (places_from (λ (flag : Bool). flag) 0) (map-append test xs ys)

pub take_columns-are : (plant : PlantData) (states : List AbsState) (task : ℕ) → take_columns plant states task ≡ places_from (λ (flag : Bool). flag) 0 (flags_of plant states task)
take_columns-are plant states task =
    let goings = Columns.goings plant states in
    let modes = filter (λ mode. Columns.is_active_in (initial plant mode) (contexts.Task task)) (range_with_len 0 (length plant.system.modes)) in
    let by = filter (Columns.activates plant (contexts.Task task)) goings in
    let counted = filter (λ going. Columns.is_active_in going.from (contexts.Task task)) goings in
    let rest = map Columns.Goes (Columns.alongs plant) ++ (map Columns.Begins (Columns.begun_blocks plant task) ++ map Columns.Stands (Columns.positions plant states task)) in
    let starts : map is_take (map Columns.Starts (Columns.starts plant states task)) ≡ mode_flags plant task (length plant.system.modes) ++ start_flags (map (task_move plant task) (Columns.goings plant states)) =
    ap (map is_take) (map-append Columns.Starts (map Columns.In modes) (map Columns.By by)) ∙ map-append is_take (map Columns.Starts (map Columns.In modes)) (map Columns.Starts (map Columns.By by))
    ∙ ap (λ (flags : List Bool). flags ++ map is_take (map Columns.Starts (map Columns.By by))) (mode_starts modes)
    ∙ ap (λ (flags : List Bool). mode_flags plant task (length plant.system.modes) ++ flags) (move_starts by ∙ kept plant task (Columns.activates plant (contexts.Task task)) (λ move. move.starts) goings (λ going. refl)) in
    let moves : map is_take (map Columns.Moves counted) ≡ count_flags (map (task_move plant task) (Columns.goings plant states)) =
    counting counted ∙ kept plant task (λ going. Columns.is_active_in going.from (contexts.Task task)) (λ move. move.counts) goings (λ going. refl) in
    three_parts is_take (map Columns.Starts (Columns.starts plant states task)) (map Columns.Moves counted) rest (none_of_rest (Columns.alongs plant) (Columns.begun_blocks plant task) (Columns.positions plant states task))
    ∙ ap (λ (flags : List Bool). places_from (λ (flag : Bool). flag) 0 (flags ++ map is_take (map Columns.Moves counted))) starts
    ∙ ap (λ (flags : List Bool). places_from (λ (flag : Bool). flag) 0 (mode_flags plant task (length plant.system.modes) ++ start_flags (map (task_move plant task) (Columns.goings plant states)) ++ flags)) moves
  where
    none_of_rest : (alongs : List Columns.Along) (blocks nodes : List ℕ) (place : ℕ) → places_from is_take place (map Columns.Goes alongs ++ (map Columns.Begins blocks ++ map Columns.Stands nodes)) ≡ []
    none_of_rest alongs blocks nodes place =
        places-append is_take place (map Columns.Goes alongs) (map Columns.Begins blocks ++ map Columns.Stands nodes)
        ∙ ap (λ (places : List ℕ). places ++ places_from is_take (place + length (map Columns.Goes alongs)) (map Columns.Begins blocks ++ map Columns.Stands nodes)) (none_goes place alongs)
        ∙ places-append is_take (place + length (map Columns.Goes alongs)) (map Columns.Begins blocks) (map Columns.Stands nodes)
        ∙ ap (λ (places : List ℕ). places ++ places_from is_take (place + length (map Columns.Goes alongs) + length (map Columns.Begins blocks)) (map Columns.Stands nodes)) (none_begins (place + length (map Columns.Goes alongs)) blocks)
        ∙ none_stands (place + length (map Columns.Goes alongs) + length (map Columns.Begins blocks)) nodes

-- ---- Take columns are columns

places-within : {A : Type 0} (test : A → Bool) (place : ℕ) (xs : List A) → All (λ column. column < place + length xs) (places_from test place xs)
places-within test place [] = All-nil (λ column. column < place + 0)
places-within test place (x ∷ xs) =
    let next : suc place + length xs ≡ place + suc (length xs) = omega arith in
    let rest : All (λ column. column < place + suc (length xs)) (places_from test (suc place) xs) = subst (λ (n : ℕ). All (λ column. column < n) (places_from test (suc place) xs)) next (places-within test (suc place) xs) in
    by (test x) rest
  where
    by : (t : Bool) → All (λ column. column < place + suc (length xs)) (places_from test (suc place) xs)
        → All (λ column. column < place + suc (length xs)) (cond t (place ∷ places_from test (suc place) xs) (places_from test (suc place) xs))
    by true rest = All-cons (λ column. column < place + suc (length xs)) place (places_from test (suc place) xs) (omega arith) rest
    by false rest = rest

pub take_columns-exist : (plant : PlantData) (states : List AbsState) (task : ℕ) → All (λ column. column < length (rows_of plant states task).costs) (take_columns plant states task)
take_columns-exist plant states task =
    let columns = Columns.columns plant states task in
    let count : 0 + length columns ≡ length (rows_of plant states task).costs = zero-add (length columns) ∙ sym (length-map columns (λ (column : Columns.Column). pos (Columns.cost plant column))) in
    subst (λ (n : ℕ). All (λ column. column < n) (take_columns plant states task)) count (places-within is_take 0 columns)

-- ---- There is a row

first_row : {A : Type 0} (x : A) (xs : List A) → 0 < length (x ∷ xs)
first_row x xs = omega arith

pub rows_exist : (plant : PlantData) (states : List AbsState) (task : ℕ) → 0 < length (rows_of plant states task).rows
rows_exist plant states task =
    let columns = Columns.columns plant states task in
    let others = Families.leaving plant states task ++ (Families.passing plant ++ (Families.standing plant states task ++ (Families.beginning plant task ++ (Families.going_round plant ++ Families.arriving plant)))) in
    first_row (map Families.one_start.factor columns) (map (λ (row : Families.Row). map row.factor columns) others)
