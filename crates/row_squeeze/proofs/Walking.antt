-- One step more of the loops of the lift.
use Rattle.std.proofs.Common.{◌≡◌, ◌≢◌, ℕ, zero, suc, ◌+◌, ◌-◌, ◌*◌, ◌^◌, ◌<◌, ◌≤◌, ◌==◌, ◌||◌, Bool, true, false, cond, List, [], ◌∷◌, ◌++◌, map, length, get_or, drop, set, ℤ, pos, negsuc, ◌+ℤ◌, ◌*ℤ◌, unsigned_abs, Option, Some, None, Ok, Err, All, refl, sym, ap, ◌∙◌, append_assoc, inl, inr, ◌⊎◌, arith}
use Rattle.std.proofs.lemmas.Int.{ints, unsigned_abs-mul}
use Rattle.std.proofs.lemmas.List.{drop_more, drop_all, append-nil}
use Rattle.std.proofs.lemmas.List.Elements.{All-head, All-tail}
use Rattle.std.proofs.lemmas.List.Sums.{sum_by-cons}
use Rattle.std.proofs.Math.Nat.{mul-le-mul, mul-le-mul_left}
use Rattle.std.specs.List.{range_with_len, flat_map, list_any, sum_by}
use Rattle.whole_rows.specs.Rows.{RowsData, product_sum}
use Rattle.whole_simplex.specs.Answers.{IsSmall}
use Rattle.whole_simplex.specs.Outcome.{is_large}
use Rattle.row_squeeze.specs.declared.Link.{Link}
use Rattle.row_squeeze.specs.declared.lift.Step.{Step}
use Rattle.row_squeeze.specs.Lift.{leaving, enters, unlifted, rows_on, rows_from, lifted, lifted_value, outgoing_at}
use Rattle.row_squeeze.specs.Working.Parts.{led_from}

-- ---- the link that leaves a column, sought from the first row on

leaving_found : (row : ℕ) (link : Option Link) (links : List (Option Link)) (column incoming : ℕ) → led_from column link ≡ Some incoming → leaving row (link ∷ links) column ≡ Some (record { row = row; incoming = incoming })
leaving_found row None links column incoming e = cc
leaving_found row (Some link) links column incoming e = by_test (link.outgoing == column) e
  where
    by_test : (t : Bool) → cond t (Some link.incoming) None ≡ Some incoming → cond t (Some (let step : Step = record { row = row; incoming = link.incoming } in step)) (leaving (suc row) links column) ≡ Some (record { row = row; incoming = incoming })
    by_test true q = let same : link.incoming ≡ incoming = cc in ap (λ (n : ℕ). Some (let step : Step = record { row = row; incoming = n } in step)) same
    by_test false q = cc

leaving_passed : (row : ℕ) (link : Option Link) (links : List (Option Link)) (column : ℕ) → led_from column link ≡ None → leaving row (link ∷ links) column ≡ leaving (suc row) links column
leaving_passed row None links column e = refl
leaving_passed row (Some link) links column e = by_test (link.outgoing == column) e
  where
    by_test : (t : Bool) → cond t (Some link.incoming) None ≡ None → cond t (Some (let step : Step = record { row = row; incoming = link.incoming } in step)) (leaving (suc row) links column) ≡ leaving (suc row) links column
    by_test true q = cc
    by_test false q = refl

pub leaving_here : (links : List (Option Link)) (column i incoming : ℕ) → i < length links → led_from column (get_or links i None) ≡ Some incoming → leaving 0 links column ≡ leaving i (drop i links) column → leaving 0 links column ≡ Some (record { row = i; incoming = incoming })
leaving_here links column i incoming h e so_far =
    so_far ∙ ap (λ (ls : List (Option Link)). leaving i ls column) (drop_more links i None h) ∙ leaving_found i (get_or links i None) (drop (i + 1) links) column incoming e

pub leaving_next : (links : List (Option Link)) (column i : ℕ) → i < length links → led_from column (get_or links i None) ≡ None → leaving 0 links column ≡ leaving i (drop i links) column → leaving 0 links column ≡ leaving (i + 1) (drop (i + 1) links) column
leaving_next links column i h e so_far =
    let next : suc i ≡ i + 1 = omega arith in
    so_far ∙ ap (λ (ls : List (Option Link)). leaving i ls column) (drop_more links i None h) ∙ leaving_passed i (get_or links i None) (drop (i + 1) links) column e ∙ ap (λ (n : ℕ). leaving n (drop (i + 1) links) column) next

pub leaving_past : (links : List (Option Link)) (column i : ℕ) → i ≡ length links → leaving 0 links column ≡ leaving i (drop i links) column → None ≡ leaving 0 links column
leaving_past links column i e so_far =
    sym (so_far ∙ ap (λ (ls : List (Option Link)). leaving i ls column) (drop_all i links (omega arith)))

-- ---- the multipliers that aren't lifted yet, in order of rows

unlifted-linked : (link : Option Link) (links : List (Option Link)) (multipliers : List ℤ) → link ≢ None → unlifted (link ∷ links) multipliers ≡ pos 0 ∷ unlifted links multipliers
unlifted-linked None links multipliers h = absurd (h refl)
unlifted-linked (Some link) links multipliers h = refl

pub unlifted_next : (links : List (Option Link)) (multipliers all : List ℤ) (i next : ℕ) → i < length links → get_or links i None ≡ None → next < length multipliers → all ++ unlifted (drop i links) (drop next multipliers) ≡ unlifted links multipliers → (all ++ get_or multipliers next (pos 0) ∷ []) ++ unlifted (drop (i + 1) links) (drop (next + 1) multipliers) ≡ unlifted links multipliers
unlifted_next links multipliers all i next h none k so_far =
    let here : unlifted (drop i links) (drop next multipliers) ≡ get_or multipliers next (pos 0) ∷ unlifted (drop (i + 1) links) (drop (next + 1) multipliers) =
    rw (drop_more links i None h, drop_more multipliers next (pos 0) k, none) refl in
    append_assoc all (get_or multipliers next (pos 0) ∷ []) (unlifted (drop (i + 1) links) (drop (next + 1) multipliers)) ∙ ap (λ (rest : List ℤ). all ++ rest) (sym here) ∙ so_far

pub unlifted_zero : (links : List (Option Link)) (multipliers all : List ℤ) (i next : ℕ) → i < length links → (get_or links i None ≢ None) ⊎ (length multipliers ≤ next) → all ++ unlifted (drop i links) (drop next multipliers) ≡ unlifted links multipliers → (all ++ pos 0 ∷ []) ++ unlifted (drop (i + 1) links) (drop next multipliers) ≡ unlifted links multipliers
unlifted_zero links multipliers all i next h other so_far =
    append_assoc all (pos 0 ∷ []) (unlifted (drop (i + 1) links) (drop next multipliers)) ∙ ap (λ (rest : List ℤ). all ++ rest) (sym (ap (λ (ls : List (Option Link)). unlifted ls (drop next multipliers)) (drop_more links i None h) ∙ here other)) ∙ so_far
  where
    by_link : (link : Option Link) → unlifted (link ∷ drop (i + 1) links) [] ≡ pos 0 ∷ unlifted (drop (i + 1) links) []
    by_link None = refl
    by_link (Some link) = refl

    here : (get_or links i None ≢ None) ⊎ (length multipliers ≤ next) → unlifted (get_or links i None ∷ drop (i + 1) links) (drop next multipliers) ≡ pos 0 ∷ unlifted (drop (i + 1) links) (drop next multipliers)
    here (inl linked) = unlifted-linked (get_or links i None) (drop (i + 1) links) (drop next multipliers) linked
    here (inr past) = rw (drop_all next multipliers past) (by_link (get_or links i None))

pub unlifted_ends : (links : List (Option Link)) (multipliers all : List ℤ) (i next : ℕ) → i ≡ length links → all ++ unlifted (drop i links) (drop next multipliers) ≡ unlifted links multipliers → all ≡ unlifted links multipliers
unlifted_ends links multipliers all i next e so_far =
    let none : unlifted (drop i links) (drop next multipliers) ≡ [] = rw (drop_all i links (omega arith)) refl in
    sym (append-nil all) ∙ ap (λ (rest : List ℤ). all ++ rest) (sym none) ∙ so_far

-- ---- sizes

pub small_size : (m : ℤ) → IsSmall m → unsigned_abs m < 2 ^ 80
small_size (pos n) small = let below = small.1 in omega (arith, ints)
small_size (negsuc n) small = let above = small.0 in absurd (omega (arith, ints))

pub small_is : (m : ℤ) → IsSmall m → m ≡ pos (unsigned_abs m)
small_is (pos n) small = refl
small_is (negsuc n) small = let above = small.0 in absurd (omega (arith, ints))

pub product_size : (m x : ℤ) → IsSmall m → unsigned_abs x < 2 ^ 40 → unsigned_abs (m *ℤ x) < 2 ^ 120
product_size m x small h =
    let one : unsigned_abs m ≤ 2 ^ 80 - 1 = let s = small_size m small in omega arith in
    let other : unsigned_abs x ≤ 2 ^ 40 - 1 = omega arith in
    rw unsigned_abs-mul (omega (arith, mul-le-mul one other))

sum_size-more : (product sum : ℤ) (x m total : ℕ) → unsigned_abs product ≡ x * m → m < 2 ^ 80 → unsigned_abs sum ≤ total * 2 ^ 80 → unsigned_abs (product +ℤ sum) ≤ (x + total) * 2 ^ 80
sum_size-more product sum x m total e small rest =
    let most : m ≤ 2 ^ 80 = omega arith in
    let size = mul-le-mul_left x most in
    omega (arith, ints)

pub sum_size : (xs multipliers : List ℤ) → All IsSmall multipliers → unsigned_abs (product_sum xs (map unsigned_abs multipliers)) ≤ sum_by unsigned_abs xs * 2 ^ 80
sum_size [] multipliers small = omega arith
sum_size (x ∷ xs) [] small = omega arith
sum_size (x ∷ xs) (m ∷ multipliers) small =
    rw sum_by-cons (sum_size-more (x *ℤ pos (unsigned_abs m)) (product_sum xs (map unsigned_abs multipliers)) (unsigned_abs x) (unsigned_abs m) (sum_by unsigned_abs xs) (unsigned_abs-mul x (pos (unsigned_abs m))) (small_size m (All-head IsSmall m multipliers small)) (sum_size xs multipliers (All-tail IsSmall m multipliers small)))

-- ---- the rows of a chain

pub rows_from-step : (steps : ℕ) (links : List (Option Link)) (column : ℕ) (step : Step) → leaving 0 links column ≡ Some step → rows_from (suc steps) links column ≡ step.row ∷ rows_from steps links step.incoming
rows_from-step steps links column step e = ap (rows_on (rows_from steps links)) e

pub rows_from-end : (steps : ℕ) (links : List (Option Link)) (column : ℕ) → leaving 0 links column ≡ None → rows_from steps links column ≡ []
rows_from-end zero links column e = refl
rows_from-end (suc steps) links column e = ap (rows_on (rows_from steps links)) e

-- ---- lifting one row after the other

pub lifted-step : (d : RowsData) (links : List (Option Link)) (denominator : ℤ) (multipliers : List ℤ) (row : ℕ) (rows : List ℕ) → is_large (lifted_value d denominator multipliers row (outgoing_at links row)) ≡ false → lifted d links denominator multipliers (row ∷ rows) ≡ lifted d links denominator (set multipliers row (lifted_value d denominator multipliers row (outgoing_at links row))) rows
lifted-step d links denominator multipliers row rows e = rw e refl

pub lifted-stop : (d : RowsData) (links : List (Option Link)) (denominator : ℤ) (multipliers : List ℤ) (row : ℕ) (rows : List ℕ) → is_large (lifted_value d denominator multipliers row (outgoing_at links row)) ≡ true → lifted d links denominator multipliers (row ∷ rows) ≡ Err (lifted_value d denominator multipliers row (outgoing_at links row))
lifted-stop d links denominator multipliers row rows e = rw e refl

-- what comes after rows that are lifted
pub lifted-append : (d : RowsData) (links : List (Option Link)) (denominator : ℤ) (multipliers after : List ℤ) (rows more : List ℕ) → lifted d links denominator multipliers rows ≡ Ok after → lifted d links denominator multipliers (rows ++ more) ≡ lifted d links denominator after more
lifted-append d links denominator multipliers after [] more e = let same : multipliers ≡ after = cc in ap (λ (ms : List ℤ). lifted d links denominator ms more) same
lifted-append d links denominator multipliers after (row ∷ rows) more e =
    by_test (lifted-append d links denominator (set multipliers row (lifted_value d denominator multipliers row (outgoing_at links row))) after rows more) (is_large (lifted_value d denominator multipliers row (outgoing_at links row))) e
  where
    by_test : (lifted d links denominator (set multipliers row (lifted_value d denominator multipliers row (outgoing_at links row))) rows ≡ Ok after → lifted d links denominator (set multipliers row (lifted_value d denominator multipliers row (outgoing_at links row))) (rows ++ more) ≡ lifted d links denominator after more) → (t : Bool) → cond t (Err (lifted_value d denominator multipliers row (outgoing_at links row))) (lifted d links denominator (set multipliers row (lifted_value d denominator multipliers row (outgoing_at links row))) rows) ≡ Ok after → cond t (Err (lifted_value d denominator multipliers row (outgoing_at links row))) (lifted d links denominator (set multipliers row (lifted_value d denominator multipliers row (outgoing_at links row))) (rows ++ more)) ≡ lifted d links denominator after more
    by_test rest true q = cc
    by_test rest false q = rest q

pub lifted-append_stops : (d : RowsData) (links : List (Option Link)) (denominator : ℤ) (multipliers : List ℤ) (value : ℤ) (rows more : List ℕ) → lifted d links denominator multipliers rows ≡ Err value → lifted d links denominator multipliers (rows ++ more) ≡ Err value
lifted-append_stops d links denominator multipliers value [] more e = cc
lifted-append_stops d links denominator multipliers value (row ∷ rows) more e =
    by_test (lifted-append_stops d links denominator (set multipliers row (lifted_value d denominator multipliers row (outgoing_at links row))) value rows more) (is_large (lifted_value d denominator multipliers row (outgoing_at links row))) e
  where
    by_test : (lifted d links denominator (set multipliers row (lifted_value d denominator multipliers row (outgoing_at links row))) rows ≡ Err value → lifted d links denominator (set multipliers row (lifted_value d denominator multipliers row (outgoing_at links row))) (rows ++ more) ≡ Err value) → (t : Bool) → cond t (Err (lifted_value d denominator multipliers row (outgoing_at links row))) (lifted d links denominator (set multipliers row (lifted_value d denominator multipliers row (outgoing_at links row))) rows) ≡ Err value → cond t (Err (lifted_value d denominator multipliers row (outgoing_at links row))) (lifted d links denominator (set multipliers row (lifted_value d denominator multipliers row (outgoing_at links row))) (rows ++ more)) ≡ Err value
    by_test rest true q = q
    by_test rest false q = rest q

-- one number more of a range
pub flat_map_range : (f : ℕ → List ℕ) (i n : ℕ) → i < n → flat_map f (range_with_len i (n - i)) ≡ f i ++ flat_map f (range_with_len (i + 1) (n - (i + 1)))
flat_map_range f i n h =
    let e : n - i ≡ suc (n - (i + 1)) = omega arith in
    rw e refl

pub flat_map_none : (f : ℕ → List ℕ) (i n : ℕ) → n ≤ i → flat_map f (range_with_len i (n - i)) ≡ []
flat_map_none f i n h =
    let e : n - i ≡ 0 = omega arith in
    rw e refl

pub any_step : (links : List (Option Link)) (column i : ℕ) → i < length links → list_any (enters column) (drop i links) ≡ (enters column (get_or links i None) || list_any (enters column) (drop (i + 1) links))
any_step links column i h = rw (drop_more links i None h) refl

pub any_none : (links : List (Option Link)) (column i : ℕ) → length links ≤ i → list_any (enters column) (drop i links) ≡ false
any_none links column i h = rw (drop_all i links h) refl
